pub mod Files
pub mod Numbers
