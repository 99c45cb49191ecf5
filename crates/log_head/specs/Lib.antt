pub mod Horizons
pub mod Heads
pub mod Reading
