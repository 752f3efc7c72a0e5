pub mod Finding
pub mod Likes
pub mod Marks
pub mod Passes
pub mod Resolving
pub mod Recalling
