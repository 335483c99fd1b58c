-- Cited by other crates: `Vehicles` and `Named`.
mod Axles
pub mod Vehicles
pub mod Named
