pub mod Sides
pub mod KeyAnswers
pub mod Traced
pub mod Cuts
pub mod Counting
pub mod Fronts
pub mod Longest
pub mod KeptFronts
