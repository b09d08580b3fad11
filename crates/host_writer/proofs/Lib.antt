pub mod Drops
pub mod Sayings
pub mod Writers
