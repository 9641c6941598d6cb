pub mod Content
pub mod Binding
