pub mod Walking
pub mod Replaying
pub mod Promising
pub mod Leaving
