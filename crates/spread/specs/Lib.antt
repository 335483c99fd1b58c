pub mod Inertia
pub mod Stiffness
pub mod Spread
pub mod Beta
pub mod Scaled
