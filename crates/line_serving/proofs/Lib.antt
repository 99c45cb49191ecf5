pub mod Lines
pub mod LessHeld
pub mod Batches
