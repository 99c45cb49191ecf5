pub mod Texts
pub mod Windows
pub mod Told
