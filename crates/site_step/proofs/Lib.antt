pub mod Holding
pub mod Reading
pub mod Matching
pub mod Standing
pub mod Settling
pub mod Ends
pub mod Extents
pub mod Prefixes
pub mod Writes
pub mod Resumes
pub mod Restarts
pub mod Fronts
pub mod Opens
pub mod FrontEnds
pub mod Splits
pub mod Shortens
mod Calls
mod Spending
mod Committing
mod Alone
pub mod Lasting
pub mod Lines
mod Excluded
