pub mod Replaying
pub mod Anew
pub mod Site
pub mod State
pub mod Resuming
pub mod Opening
pub mod Calls
pub mod Shortening
