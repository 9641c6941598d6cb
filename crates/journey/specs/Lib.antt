pub mod Journeys
pub mod Laws
