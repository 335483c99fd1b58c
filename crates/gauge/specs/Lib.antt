pub mod Value
pub mod Limit
pub mod Gauge
pub mod Fault
pub mod Whole
pub mod Claims
