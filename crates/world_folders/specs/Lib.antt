pub mod Reading
pub mod Faults
pub mod Folders
pub mod Logs
pub mod Lost
pub mod Marks
pub mod Traces
