pub mod Gathered
pub mod Late
pub mod Numbered
