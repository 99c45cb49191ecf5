pub mod Held
pub mod Behind
pub mod Counts
