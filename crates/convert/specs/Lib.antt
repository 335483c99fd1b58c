pub mod VehicleBytes
pub mod Convert
pub mod Fault
pub mod Claims
