pub mod Tasks
pub mod Serve
pub mod Given
pub mod Values
