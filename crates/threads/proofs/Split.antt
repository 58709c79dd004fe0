-- A step split at its touch: place by place the three parts are the step (Stands); a plan names a slot of the queue (Within); a settlement leaves a sound
-- record (StaysSound), and so does a start (FirstCalls), so that the record need not be asked again (Unasked).
pub mod Touches
pub mod Settlement
pub mod DequePlaces
pub mod ByPlace
pub mod Stands
pub mod ByRecord
pub mod Planned
pub mod Within
pub mod SoundFields
pub mod DequeStaysSound
pub mod StaysSound
pub mod Unasked
pub mod FirstCalls
