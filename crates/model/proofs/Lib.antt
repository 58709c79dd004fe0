-- The theorems over the meanings: Linearizable (demand 3) first, then Never34 (34 never occurs), Standing (reports), Retries (#101's sum),
-- NoFreeSlot (a pooled push is answered *no slot* only where every slot is in use), StepBounds (#108), MarksRight and LinksBack.
-- A step of the tables is a step of a decoded machine (bridge), which keeps an invariant (invariant, chain, places);
-- a book of the sequential deque follows the machine and matches the ledger (ledger); bounds on tags and fields keep every table sound (tags, unsound).
pub mod Tests
pub mod Lists
pub mod Machine
pub mod Invariant
pub mod Chain
pub mod Places
pub mod Bridge
pub mod Ledger
pub mod Tags
pub mod Unsound
pub mod Progress
pub mod Openings
pub mod Linearizable
pub mod Never34
pub mod Standing
pub mod Retries
pub mod NoFreeSlot
pub mod StepBounds
pub mod MarksRight
pub mod LinksBack
-- Laws of single calls, and the worked cases of the document.
pub mod Laws
pub mod RunSteps
pub mod Stack
pub mod Bench
pub mod Cases
