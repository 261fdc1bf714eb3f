pub mod Module
pub mod Unmet
pub mod Check
