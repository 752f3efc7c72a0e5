pub mod Commands
pub mod Mask
pub mod Parts
pub mod Judging
