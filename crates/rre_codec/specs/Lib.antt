pub mod Ahead
pub mod Putting
pub mod Corners
