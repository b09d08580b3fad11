pub mod Frames
pub mod Clients
pub mod Breaches
