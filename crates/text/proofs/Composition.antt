-- Composing writes the rows, the literals and the depth of every text without faults (`composed_right`), within bounds (`enough_room`).
-- Assumes nothing.
pub mod Literals
pub mod Pens
pub mod Drafts
pub mod Moves
pub mod Faultless
pub mod Promises
pub mod Operators
pub mod Composing
pub mod Committed
