-- Cited by other crates: all.
pub mod Tests
pub mod Headers
pub mod Each
pub mod Faults
pub mod Numbers
pub mod Writing
