pub mod Cycle
pub mod Met
pub mod Unbuilt
