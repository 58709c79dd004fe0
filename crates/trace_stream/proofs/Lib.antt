pub mod Reading
pub mod Sliding
