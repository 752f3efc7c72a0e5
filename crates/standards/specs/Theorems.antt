-- What the theorems speak of. They stand in proofs/Theorems.
pub mod Shaved
pub mod Cascade
