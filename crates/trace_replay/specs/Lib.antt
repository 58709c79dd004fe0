pub mod Trace
pub mod Feed
pub mod Pieces
pub mod Laws
