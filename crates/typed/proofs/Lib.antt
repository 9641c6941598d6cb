pub mod Counted
pub mod Lettering
pub mod Sayings
pub mod Spelling
