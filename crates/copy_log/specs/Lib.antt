pub mod Passed
pub mod KeepsUp
pub mod Notes
