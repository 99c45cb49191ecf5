pub mod Entries
pub mod Replies
pub mod Verdict
pub mod Fates
pub mod Ladder
pub mod Here
