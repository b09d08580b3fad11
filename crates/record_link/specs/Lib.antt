pub mod Storing
pub mod Tapes
pub mod Growing
pub mod Talking
pub mod Linked
