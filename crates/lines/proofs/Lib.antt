pub mod Puts
pub mod Lanes
pub mod Glyphs
pub mod Digits
pub mod Decimal
pub mod Lengths
