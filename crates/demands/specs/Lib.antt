pub mod History
pub mod Parts
pub mod YardCall
pub mod GaugeCall
pub mod ReadingsCall
pub mod CoupleCall
pub mod Demands
