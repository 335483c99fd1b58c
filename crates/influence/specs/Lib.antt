pub mod Influence
pub mod Bounds
pub mod Scaled
pub mod Rows
