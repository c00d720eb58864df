pub mod Acting
pub mod Bounds
pub mod Modes
pub mod Nesting
pub mod Steps
pub mod Urgent
