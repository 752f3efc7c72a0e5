pub mod Aiming
pub mod Descending
pub mod Looking
pub mod Pairing
pub mod Quieting
pub mod Turning
pub mod Writing
pub mod Sets
