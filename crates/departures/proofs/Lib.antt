pub mod Rows
pub mod Walked
pub mod Listing
pub mod Single
