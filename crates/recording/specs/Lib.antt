pub mod BadNumber
pub mod BlockReading
pub mod Progress
pub mod Recording
pub mod Waiting
