pub mod Words
pub mod Lines
pub mod Spelled
pub mod Vectors
