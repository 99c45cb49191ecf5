pub mod Leaving
pub mod Closing
pub mod Readings
pub mod Keeping
pub mod Replacing
