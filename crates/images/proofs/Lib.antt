pub mod Putting
pub mod Meaning
