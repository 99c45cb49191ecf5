pub mod Streams
pub mod Watched
pub mod Lines
pub mod Faults
pub mod Window
pub mod Reader
