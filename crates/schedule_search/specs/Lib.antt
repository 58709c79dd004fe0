pub mod Stepped
pub mod Sought
