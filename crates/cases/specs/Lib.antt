pub mod Mill
pub mod Cases
pub mod Marks
