pub mod Imaging
pub mod Mending
pub mod Passing
pub mod Preparing
pub mod Twins
pub mod Sets
