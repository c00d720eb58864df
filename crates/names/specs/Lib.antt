pub mod Names
pub mod Index
