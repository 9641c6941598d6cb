pub mod Moves
pub mod Counts
