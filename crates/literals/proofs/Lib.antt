pub mod Digits
pub mod Indices
pub mod Cases
