pub mod Chained
pub mod ListOf
pub mod Words
pub mod Formed
pub mod Pairs
pub mod Laws
pub mod Worked
