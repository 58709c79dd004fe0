pub mod Run
pub mod Page
