pub mod Above
pub mod Facts
pub mod Below
pub mod Asked
