pub mod Handle
pub mod Range
pub mod Field
pub mod Layout
pub mod Number
pub mod Name
