pub mod Files
pub mod Converting
pub mod Kept
pub mod Written
pub mod RoundTrip
pub mod Named
pub mod Claims
