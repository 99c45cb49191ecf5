pub mod RightsLaws
pub mod Rows
