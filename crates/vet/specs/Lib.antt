pub mod Faults
pub mod Vetting
pub mod Verdicts
pub mod Standings
