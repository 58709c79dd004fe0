-- Why no test of soundness fails.
pub mod FieldsKept
pub mod AnchorFields
pub mod Tests
pub mod Suits
pub mod Moves
pub mod Safe
pub mod StepSound
pub mod StepSafe
pub mod StartSafe
pub mod Runs
