pub mod Bytes
pub mod Prefix
pub mod Numbered
