pub mod Dropping
pub mod Moment
pub mod Saying
pub mod Writing
