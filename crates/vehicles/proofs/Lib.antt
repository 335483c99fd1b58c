-- Cited by other crates: all five.
pub mod Axles
pub mod Rows
pub mod Vehicles
pub mod Alike
pub mod Yards
