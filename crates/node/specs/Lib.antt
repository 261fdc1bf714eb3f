pub mod Nodes
pub mod Late
