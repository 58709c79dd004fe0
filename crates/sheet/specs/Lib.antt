pub mod Refusals
pub mod Extents
pub mod Squares
pub mod Search
pub mod Laws
