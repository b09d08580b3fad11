pub mod Reading
pub mod Heads
pub mod Payloads
pub mod Writing
pub mod Clients
pub mod Breaches
pub mod Vectors
