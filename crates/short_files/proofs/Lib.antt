pub mod Begins
pub mod Doubt
