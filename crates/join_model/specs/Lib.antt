pub mod Merge
pub mod Join
pub mod Closed
pub mod Laws
