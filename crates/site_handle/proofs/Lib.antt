pub mod AsBox
pub mod Calls
