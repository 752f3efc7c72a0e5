pub mod Uses
pub mod Links
