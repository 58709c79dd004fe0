-- Truth values, lists of tests and rules, one case a place.
pub mod Truth
pub mod Rules
pub mod ByPlace
