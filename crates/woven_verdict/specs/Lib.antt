pub mod Judged
pub mod Woven
pub mod Listed
