pub mod Answered
pub mod History
pub mod YardLaws
pub mod ReadingsLaws
pub mod GaugeLaws
pub mod CoupleLaws
pub mod Demands
