pub mod Picture
pub mod Recorded
