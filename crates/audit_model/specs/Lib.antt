pub mod Audit
pub mod LentHistory
pub mod Written
pub mod Laws
