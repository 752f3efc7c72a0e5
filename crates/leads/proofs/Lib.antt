pub mod Lasting
pub mod Linking
pub mod Sets
