pub mod Seal
pub mod Once
pub mod Faults
pub mod Promised
