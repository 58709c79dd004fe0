pub mod Pages
pub mod AfterActs
pub mod Fields
pub mod Room
