pub mod Lists
pub mod Kept
