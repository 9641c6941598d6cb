pub mod Fields
pub mod Lines
pub mod Quays
pub mod Sailings
