mod Sought
pub mod Found
