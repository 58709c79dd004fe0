-- The decoded machine: document 003's figures over data types, and the book of the sequential deque.
pub mod Records
pub mod Machine
pub mod Book
pub mod Laws
pub mod LinkTags
pub mod ByStep
pub mod Answers
