pub mod Status
pub mod Numbers
pub mod Asking
pub mod Texts
