pub mod RunsPut
pub mod Lengths
pub mod Steps
pub mod Going
pub mod LedOn
mod Front
pub mod Begun
