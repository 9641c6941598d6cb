pub mod Finds
pub mod Idle
pub mod Lawful
