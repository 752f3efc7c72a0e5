-- What the theorems speak of. They stand in proofs/Theorems.
pub mod Sim
pub mod Entries
pub mod Agree
pub mod Same
pub mod Good
pub mod Reach
pub mod Inside
pub mod Always
pub mod GoingOn
pub mod Images
pub mod Unused
pub mod Kept
pub mod Runs
