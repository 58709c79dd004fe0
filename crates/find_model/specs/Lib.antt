pub mod Find
pub mod Noting
