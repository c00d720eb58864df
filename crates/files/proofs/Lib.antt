pub mod Lines
pub mod Forms
mod Keyed
mod Heads
mod Passing
mod Written
mod Small
pub mod Outcome
pub mod Computed
pub mod Unique
pub mod RoundTrips
pub mod Limits
pub mod Cases
pub mod Copies
