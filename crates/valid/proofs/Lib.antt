pub mod Tables
pub mod Waiting
pub mod Typed
pub mod Checked
