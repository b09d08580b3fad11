pub mod Ends
pub mod Lines
pub mod Places
pub mod Rooms
mod Defaults
mod Numbers
mod Named
mod Taken
mod Added
mod RuleLists
mod Set
mod Texts
