pub mod Anchors
pub mod OnRows
pub mod OnStack
