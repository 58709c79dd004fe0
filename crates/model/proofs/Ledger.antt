-- Histories: the ledger against the book, operation by operation, and the labels waiting.
pub mod Matches
pub mod Served
pub mod Attended
pub mod Matched
pub mod EveryOperation
pub mod Lawful
pub mod Waiting
pub mod Opened
