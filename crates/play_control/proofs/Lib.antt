pub mod Lines
pub mod Speeds
