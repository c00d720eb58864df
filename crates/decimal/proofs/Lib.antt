pub mod Decimals
pub mod Laid
