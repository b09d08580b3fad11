mod Asked
mod Behind
mod Canonical
mod Heard
mod Owed
pub mod Sending
mod Unlocking
