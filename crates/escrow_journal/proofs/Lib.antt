pub mod JournalLaws
mod Views
