pub mod Step
pub mod Known
