-- The tag limit: Anchor's tag with the changes still owed, and the links' tags below it.
pub mod Sum
pub mod AnchorTag
pub mod LinkTag
pub mod HeadTag
pub mod Bounds
