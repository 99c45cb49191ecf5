pub mod Sums
pub mod Checks
