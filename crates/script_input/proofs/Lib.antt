pub mod LineLemmas
pub mod FaultLemmas
pub mod ReaderLemmas
pub mod WindowLemmas
pub mod NextLemmas
