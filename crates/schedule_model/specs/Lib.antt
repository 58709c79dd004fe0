pub mod Schedules
pub mod Endings
pub mod Allowed
pub mod Next
pub mod Claims
pub mod Search
pub mod Undo
