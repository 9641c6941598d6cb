pub mod Numbered
pub mod Judged
pub mod Told
pub mod Asked
pub mod Walked
