pub mod Loads
pub mod YardNumbers
