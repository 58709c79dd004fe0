pub mod Pasting
pub mod Controls
pub mod Changing
