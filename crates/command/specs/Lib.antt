pub mod Numbers
pub mod Named
pub mod Command
