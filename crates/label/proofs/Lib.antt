pub mod Handing
pub mod Holders
pub mod Remembering
pub mod Growing
pub mod Walking
pub mod Telling
pub mod Trimming
