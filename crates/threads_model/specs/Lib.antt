pub mod Split
pub mod Starts
pub mod Turns
pub mod Instructions
pub mod Crew
