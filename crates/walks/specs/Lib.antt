pub mod Walks
pub mod Both
pub mod Whole
