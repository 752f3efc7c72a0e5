pub mod Marks
pub mod Seeks
