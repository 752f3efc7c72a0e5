pub mod Bools
pub mod Entries
pub mod Climbs
pub mod Alike
pub mod Facts
pub mod Stores
