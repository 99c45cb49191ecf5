pub mod Cuts
pub mod Taking
pub mod Stops
pub mod Damage
pub mod Sums
