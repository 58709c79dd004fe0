-- The tables seen as the decoded machine: words, records, touches, accepted operations.
pub mod View
pub mod Words
pub mod Marks
pub mod Facts
pub mod Trying
pub mod Helping
pub mod Pooling
pub mod EveryPlace
pub mod Stores
pub mod ByMove
pub mod Touches
pub mod Room
pub mod Accepted
pub mod Operations
pub mod Decoded
