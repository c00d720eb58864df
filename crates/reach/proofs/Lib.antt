mod Sweep
pub mod Accepted
mod Ways
