pub mod Handing
pub mod Told
