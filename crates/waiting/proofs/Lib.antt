pub mod Laid
pub mod ReadingOut
pub mod Standing
