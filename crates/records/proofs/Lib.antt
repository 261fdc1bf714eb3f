pub mod Slices
pub mod Judging
pub mod Cutting
pub mod Fields
pub mod Few
pub mod Swapping
