pub mod Ascii
pub mod Line
