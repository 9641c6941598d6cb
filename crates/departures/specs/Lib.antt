pub mod Rows
pub mod Walks
pub mod List
pub mod Laws
