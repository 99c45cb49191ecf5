pub mod LedgerLaws
pub mod Written
