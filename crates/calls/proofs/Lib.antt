pub mod InOrder
pub mod Openings
pub mod Starts
pub mod Counts
pub mod Tells
