pub mod Pictures
pub mod Taken
