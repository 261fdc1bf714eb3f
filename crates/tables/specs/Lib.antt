pub mod Tables
pub mod Operands
pub mod Entering
pub mod Cursor
