pub mod Standing
pub mod Deals
pub mod Words
pub mod Composes
pub mod Passes
