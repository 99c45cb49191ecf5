pub mod StandingLaws
pub mod FromSummary
pub mod Once
pub mod Told
pub mod Rising
pub mod SummaryThen
pub mod LogBytes
