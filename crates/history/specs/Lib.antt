pub mod Walks
pub mod Calls
pub mod Mixed
