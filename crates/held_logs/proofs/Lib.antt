pub mod Firsts
pub mod Taken
pub mod Heads
pub mod Whole
pub mod Spared
