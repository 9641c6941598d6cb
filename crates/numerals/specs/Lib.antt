pub mod Digits
pub mod Fields
pub mod Numbers
pub mod Times
