pub mod Grammar
pub mod Decoded
pub mod Lawful
