pub mod Depths
pub mod Following
pub mod Collected
pub mod Turning
pub mod Pairing
pub mod Entire
