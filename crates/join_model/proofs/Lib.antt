-- One push alone, place by place; then as requests of task 0.
pub mod Alone
pub mod Ran
pub mod Pushed
pub mod NextPush
pub mod Fresh
pub mod Filling
pub mod Pushes
pub mod Lanes
pub mod Merged
pub mod Closed
pub mod Waits
pub mod Laws
pub mod Opened
pub mod Order
