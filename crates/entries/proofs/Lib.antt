pub mod Adding
pub mod Inserting
pub mod Storing
pub mod Steps
