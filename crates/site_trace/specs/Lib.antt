pub mod Lines
pub mod Traces
pub mod Reading
pub mod Records
pub mod Ends
pub mod Kept
pub mod Keeping
