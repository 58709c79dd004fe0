-- After any list following an opening; what the walk's order does to a position; what a position means; the order of the refusals.
pub mod Standing
pub mod Positions
pub mod Right
pub mod Order
