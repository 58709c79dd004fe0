mod Turns
mod Sweep
mod Rounds
mod ByteRows
mod BitRows
mod Crossing
mod Noted
mod Searched
mod Broken
mod Gather
mod Judged
mod Printed
pub mod Laws
