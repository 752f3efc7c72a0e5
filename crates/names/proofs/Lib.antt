pub mod Keys
pub mod Compared
