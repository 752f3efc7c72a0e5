pub mod Marking
pub mod Readings
pub mod Search
pub mod Seeking
