pub mod Lines
pub mod Firsts
pub mod Tables
pub mod Laws
