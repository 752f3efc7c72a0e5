pub mod Collapse
pub mod Appending
pub mod Seen
