pub mod Judging
pub mod Saying
