pub mod Putting
pub mod Answer
pub mod Law
