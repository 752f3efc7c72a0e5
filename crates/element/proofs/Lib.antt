pub mod Declaring
pub mod Fonts
pub mod Keeping
pub mod Running
pub mod Whole
