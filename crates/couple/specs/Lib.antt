pub mod Couple
pub mod Fault
pub mod Claims
