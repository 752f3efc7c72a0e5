pub mod Summing
pub mod Putting
pub mod Quoting
pub mod Contents
pub mod Words
