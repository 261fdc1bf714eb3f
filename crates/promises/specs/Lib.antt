pub mod Inside
pub mod Kept
pub mod Rows
pub mod Promises
pub mod Samples
