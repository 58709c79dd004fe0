pub mod Anchor
pub mod Link
