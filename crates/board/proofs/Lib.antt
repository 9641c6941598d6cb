pub mod Holds
pub mod Steps
pub mod Lifted
pub mod Chains
pub mod Plains
pub mod Decides
