pub mod Books
pub mod Fair
