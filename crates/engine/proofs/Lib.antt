pub mod ByPlace
pub mod Unchanged
pub mod Stored
pub mod InParts
