pub mod Breach
pub mod Sealed
