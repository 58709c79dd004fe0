pub mod Seeking
pub mod Stepping
pub mod Unasked
