-- The invariant, written once: the linked queue, owners, tasks, tags.
pub mod Shape
pub mod Owners
pub mod Tasks
pub mod Rely
pub mod Invariant
pub mod Tags
pub mod Fields
