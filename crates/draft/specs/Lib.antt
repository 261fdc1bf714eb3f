pub mod Manner
pub mod State
pub mod Stacking
pub mod Counting
pub mod Admitted
