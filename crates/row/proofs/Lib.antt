pub mod Places
pub mod Sorting
pub mod Permuting
