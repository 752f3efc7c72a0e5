pub mod Noted
pub mod Under
pub mod Refusals
pub mod Cases
pub mod Example
pub mod Theorems
