pub mod Seals
pub mod Rests
