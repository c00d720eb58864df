pub mod Rooted
pub mod Sets
