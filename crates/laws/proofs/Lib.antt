pub mod KindBytes
pub mod Closing
pub mod Grammatical
pub mod Weighing
pub mod Arriving
pub mod Moving
pub mod Decoding
pub mod Lawful
