pub mod Order
pub mod Between
pub mod Fault
