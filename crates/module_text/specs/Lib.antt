pub mod Shown
pub mod Words
