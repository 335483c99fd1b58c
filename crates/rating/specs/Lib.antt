pub mod Compare
pub mod Cases
pub mod Surveyed
pub mod VehicleLoad
pub mod Judgement
pub mod Turn
pub mod Text
