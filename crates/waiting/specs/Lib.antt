pub mod Waiting
pub mod Laid
