pub mod LineLemmas
pub mod IdentityLemmas
