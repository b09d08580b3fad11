pub mod Ends
pub mod Relay
