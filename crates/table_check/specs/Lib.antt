pub mod Next
pub mod Names
pub mod Passes
