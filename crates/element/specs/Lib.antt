pub mod Font
pub mod Runs
