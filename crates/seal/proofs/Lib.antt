pub mod Breaches
pub mod Named
pub mod Calling
pub mod Sealing
