pub mod Remarks
pub mod Entries
pub mod Told
pub mod OneAnswer
pub mod Judged
