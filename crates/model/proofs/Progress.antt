-- How long a call may hold up (request #108): one measure of the steps that a task may still make (Measure, Falls, Bounds).
-- Stepped alone its task comes to an answer (Alone, AloneSteps); with no effect and no answer the sum over all tasks falls (Others to TogetherSteps).
pub mod Measure
pub mod Falls
pub mod Bounds
pub mod NotRefused
pub mod Reached
pub mod Alone
pub mod AloneSteps
pub mod Others
pub mod Scale
pub mod AllOwed
pub mod Together
pub mod TogetherSteps
