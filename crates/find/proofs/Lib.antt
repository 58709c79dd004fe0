pub mod Noted
pub mod Sieve
pub mod Turning
pub mod Searching
pub mod Finding
