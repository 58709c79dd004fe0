pub mod LabelQueue
pub mod FirstMisplaced
