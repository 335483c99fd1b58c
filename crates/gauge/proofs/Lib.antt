pub mod Values
mod Patterns
pub mod Differences
mod Limits
pub mod Refusals
pub mod Claims
