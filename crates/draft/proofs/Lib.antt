pub mod Stepping
pub mod Tallying
pub mod Fronts
