pub mod Numbers
pub mod SignedNumbers
pub mod WordLemmas
pub mod Forms
pub mod WordKinds
pub mod Lines
pub mod FrontLemmas
