pub mod Entries
pub mod Looking
pub mod Places
pub mod Spelling
