pub mod Refusals
pub mod Answers
pub mod Times
pub mod Classes
pub mod Timetables
pub mod Hiding
pub mod Queries
