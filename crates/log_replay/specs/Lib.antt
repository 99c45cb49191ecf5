pub mod Standing
pub mod Replayed
pub mod Resuming
pub mod Telling
pub mod After
pub mod LogBytes
