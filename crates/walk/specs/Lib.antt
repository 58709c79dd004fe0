pub mod Ways
pub mod Over
pub mod Counted
