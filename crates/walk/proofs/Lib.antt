pub mod Along
pub mod Counting
