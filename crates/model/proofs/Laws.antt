-- Laws of single calls, for all tables and all arguments.
pub mod SoundRecord
pub mod Refusals
pub mod Order
pub mod Runs
pub mod Lengths
pub mod Sizes
pub mod LentRecord
pub mod LentSteps
pub mod OneTouch
pub mod Onward
pub mod FailedChange
pub mod Mirror
