pub mod Keeps
pub mod Doubt
pub mod Luck
pub mod Worked
