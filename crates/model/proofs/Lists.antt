-- Lists: a deque seen from its sides, chains, the pigeonhole, stores.
pub mod Deque
pub mod In
pub mod All
pub mod Ends
pub mod Chain
pub mod Slots
pub mod Range
pub mod Pigeonhole
pub mod Store
