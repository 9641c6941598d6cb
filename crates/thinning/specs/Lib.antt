pub mod Margins
pub mod Dominance
pub mod Thinning
pub mod Weights
