pub mod Spans
pub mod Soonest
pub mod Ways
pub mod Answered
