pub mod Verified
pub mod Faults
pub mod Steps
