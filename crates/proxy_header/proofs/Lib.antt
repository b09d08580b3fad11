pub mod Steps
pub mod Sent
pub mod Vectors
