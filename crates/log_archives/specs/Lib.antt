pub mod Heads
pub mod Joints
pub mod Chains
