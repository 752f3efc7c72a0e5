pub mod Walks
pub mod Along
pub mod Finding
