pub mod Sheet
pub mod Words
pub mod Verdict
pub mod Pairs
pub mod Laws
