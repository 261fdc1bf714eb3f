pub mod Once
pub mod Promised
pub mod FieldTables
pub mod Faults
pub mod Kinded
