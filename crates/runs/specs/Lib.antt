pub mod Homes
pub mod Runs
