pub mod Steps
pub mod Rule
pub mod Walked
pub mod Made
pub mod Leaves
pub mod Readings
