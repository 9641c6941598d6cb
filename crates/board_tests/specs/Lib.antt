pub mod Forty
pub mod Without
