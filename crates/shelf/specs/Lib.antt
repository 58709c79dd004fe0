pub mod Pasting
pub mod Lengths
pub mod Lent
