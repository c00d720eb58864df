mod Chain
mod Answered
pub mod RowReads
