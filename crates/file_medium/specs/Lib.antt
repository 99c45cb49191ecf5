pub mod Files
pub mod Moments
pub mod Copies
pub mod HeldFile
