pub mod Sections
pub mod Between
pub mod Whole
pub mod Item
