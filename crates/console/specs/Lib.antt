pub mod Earliest
pub mod Contents
pub mod Answers
pub mod Told
