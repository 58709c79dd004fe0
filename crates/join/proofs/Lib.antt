-- What each loop and each stage of the rules needs.
pub mod Tested
pub mod Admitting
pub mod Filled
pub mod Joining
