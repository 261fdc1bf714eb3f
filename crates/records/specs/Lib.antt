pub mod Record
pub mod Image
pub mod Handles
pub mod Left
pub mod Gathered
