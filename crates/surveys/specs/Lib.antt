pub mod Sequence
pub mod SurveyFile
pub mod Allowed
pub mod OneOrder
pub mod Refused
pub mod Longer
