pub mod TableLemmas
pub mod Lines
pub mod OnNone
pub mod Keyed
pub mod Texts
pub mod Fronts
pub mod Spelling
