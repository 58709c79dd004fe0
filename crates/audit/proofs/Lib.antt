pub mod Loops
pub mod WordsRead
pub mod Listed
pub mod Misplaced
pub mod Buffer
pub mod Turn
pub mod Verdicts
