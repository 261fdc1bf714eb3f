pub mod Counted
pub mod Rooms
pub mod WithRanks
pub mod Sorted
pub mod Inits
