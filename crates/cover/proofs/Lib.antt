pub mod Links
mod Covering
