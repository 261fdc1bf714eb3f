pub mod Keeping
pub mod Growing
pub mod Knowing
pub mod Staying
