pub mod Reach
pub mod Worked
pub mod FieldHoldings
pub mod Told
pub mod Taken
pub mod Body
pub mod Tight
