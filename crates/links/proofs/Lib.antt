pub mod Leading
pub mod Linking
pub mod Using
pub mod Sets
