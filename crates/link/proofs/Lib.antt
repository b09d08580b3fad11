pub mod Sizes
pub mod Handshaking
pub mod FirstMessages
