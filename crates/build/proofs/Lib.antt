pub mod Answering
pub mod Building
