mod Next
mod Siblings
mod Stops
mod Names
mod Passes
