pub mod NoBytes
pub mod Questions
pub mod LastWords
pub mod Since
pub mod WordFaults
