pub mod Quaylines
pub mod Sailinglines
pub mod Sayings
pub mod Steps
