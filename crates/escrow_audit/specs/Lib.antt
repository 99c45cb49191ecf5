pub mod Remarks
pub mod Audit
pub mod Judged
pub mod Reading
