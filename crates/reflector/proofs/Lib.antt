pub mod Courses
mod Growing
mod InTurn
mod OneHistory
mod Places
mod Promising
mod Telling
mod Trailing
mod Visiting
mod Watching
