pub mod Balance
pub mod Held
pub mod Accounts
