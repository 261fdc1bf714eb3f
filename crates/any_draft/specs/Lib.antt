pub mod Putting
pub mod Walking
