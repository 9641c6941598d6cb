pub mod Tested
pub mod Orders
pub mod Descent
pub mod Replaced
pub mod Spans
pub mod Marking
