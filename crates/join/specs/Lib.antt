pub mod Rule
pub mod SurveyBytes
pub mod Join
pub mod Fault
pub mod Claims
