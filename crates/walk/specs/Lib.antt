pub mod Values
pub mod Nodes
