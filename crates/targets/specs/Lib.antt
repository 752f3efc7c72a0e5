pub mod Pass
pub mod Storing
pub mod Targets
