pub mod Laws
pub mod Told
pub mod HidingLemmas
pub mod Numbers
pub mod Queried
