pub mod Few
pub mod FirstValues
pub mod Pushed
