pub mod Served
pub mod Uppers
pub mod Opening
