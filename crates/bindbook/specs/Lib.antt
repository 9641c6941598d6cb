pub mod Blame
pub mod Drafts
pub mod Endings
pub mod Excess
