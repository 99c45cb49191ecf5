pub mod One
pub mod Placed
