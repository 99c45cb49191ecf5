pub mod Surveys
pub mod Finds
pub mod Joins
pub mod Reaches
pub mod Chains
pub mod Spares
