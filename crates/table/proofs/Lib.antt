pub mod Bit
pub mod Filling
pub mod Stack
