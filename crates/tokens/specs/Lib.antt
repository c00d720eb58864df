pub mod Classes
pub mod Found
