pub mod Requests
pub mod Asking
pub mod LineFaults
pub mod BadLines
