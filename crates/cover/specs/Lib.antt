pub mod Ready
pub mod Covered
