pub mod Carried
pub mod Moments
pub mod Scaled
pub mod Spreads
pub mod StiffnessNumber
