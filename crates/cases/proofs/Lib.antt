mod Tests
mod Potentials
mod Plans
mod Bounds
mod Rows
mod Marked
