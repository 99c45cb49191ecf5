pub mod NumberLines
pub mod Rising
pub mod Told
pub mod LinesRead
pub mod HeadsRead
