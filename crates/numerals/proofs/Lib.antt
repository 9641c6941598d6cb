pub mod Standing
pub mod Clocks
