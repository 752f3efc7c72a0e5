pub mod Blankness
pub mod Looking
pub mod Steps
pub mod Programs
