pub mod Below
pub mod Chaining
pub mod Hunting
pub mod Likeness
pub mod Marking
pub mod Values
pub mod Sets
