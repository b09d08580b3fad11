pub mod Parts
pub mod ReadBack
pub mod Recorded
pub mod Vectors
pub mod Writers
