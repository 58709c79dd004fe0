pub mod Stages
pub mod Admits
pub mod Scratch
pub mod Anchored
pub mod Numbers
