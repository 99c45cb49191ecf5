pub mod Level
pub mod Reach
pub mod Text
pub mod Run
