pub mod Dealt
pub mod Asked
pub mod Sound
pub mod Told
