pub mod Fields
pub mod Commands
pub mod Forms
pub mod Saying
pub mod Digits
pub mod Lines
