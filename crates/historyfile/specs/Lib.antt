pub mod Text
pub mod Words
pub mod Reading
pub mod Buffer
