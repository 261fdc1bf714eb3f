pub mod Rows
pub mod Rooms
pub mod Ranked
