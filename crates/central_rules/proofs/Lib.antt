pub mod Decided
pub mod Verdicts
pub mod Fronts
pub mod Across
pub mod Counts
pub mod Rungs
pub mod Exact
