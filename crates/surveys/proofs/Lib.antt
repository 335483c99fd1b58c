-- Cited by other crates: `Surveys`, with the laws of its parts.
mod Tables
pub mod Members
mod Sequences
mod OneOrder
pub mod Refusals
pub mod Surveys
pub mod Longer
