pub mod Parts
pub mod Sequence
pub mod Ascii
pub mod Blocks
pub mod Folds
