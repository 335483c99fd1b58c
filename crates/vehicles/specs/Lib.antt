pub mod VehicleFile
pub mod Allowed
pub mod Refused
pub mod Alike
pub mod YardFile
pub mod Padded
