pub mod Requests
pub mod Serving
