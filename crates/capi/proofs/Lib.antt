pub mod Border
pub mod Count
pub mod Listed
