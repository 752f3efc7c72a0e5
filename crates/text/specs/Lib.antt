pub mod Spaces
pub mod Append
