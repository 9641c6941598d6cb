pub mod Blanking
