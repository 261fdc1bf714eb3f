pub mod Between
pub mod Left
pub mod Splitting
pub mod Ending
pub mod Places
pub mod ByKind
pub mod Whole
pub mod Numbered
