pub mod Scripts
pub mod Work
pub mod Reading
