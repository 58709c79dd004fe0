pub mod Sieve
pub mod Looked
