pub mod Notices
pub mod Layers
