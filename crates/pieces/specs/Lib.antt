pub mod Quotes
pub mod Content
pub mod Levels
