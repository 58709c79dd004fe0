-- The linked queue under each change of Anchor and of links.
pub mod Sides
pub mod Ends
pub mod Changes
pub mod Links
pub mod Joints
