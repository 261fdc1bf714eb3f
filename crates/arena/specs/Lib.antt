pub mod Answer
pub mod Put
pub mod Memory
pub mod Viewing
