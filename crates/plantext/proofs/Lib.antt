pub mod Lettered
pub mod Queried
pub mod Legged
