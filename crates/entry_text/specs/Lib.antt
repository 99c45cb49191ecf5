pub mod Spelling
pub mod Ranges
pub mod Reading
pub mod Commands
pub mod Replies
pub mod Entries
pub mod Lines
pub mod Taking
