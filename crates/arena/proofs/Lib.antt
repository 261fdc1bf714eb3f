pub mod Tables
pub mod Taking
pub mod Placing
pub mod Blocks
pub mod Putting
pub mod Finding
pub mod Homes
pub mod Scanning
