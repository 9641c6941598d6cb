pub mod Checked
pub mod Puts
pub mod Bound
