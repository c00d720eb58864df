-- The survey finds the lowest fault of every text of the grammar (`survey_right`), by the scheme: demands and promises, then the productions.
-- Assumes nothing.
pub mod Urgent
pub mod Seen
pub mod Promises
pub mod Operators
pub mod Paths
pub mod Calls
pub mod Survey
pub mod Least
pub mod Plain
