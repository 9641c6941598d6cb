pub mod Written
pub mod Fair
