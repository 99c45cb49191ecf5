pub mod World
pub mod Promises
pub mod Standing
pub mod Kept
pub mod View
pub mod Worked
