pub mod InOrder
pub mod ReadingLaws
pub mod Heads
mod Vectors
