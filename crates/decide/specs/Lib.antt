pub mod Ending
pub mod Decided
