pub mod Bytes
pub mod Changing
pub mod Demanding
pub mod Faults
pub mod Settling
