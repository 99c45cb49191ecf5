pub mod Bases
pub mod Pasts
pub mod Numbers
