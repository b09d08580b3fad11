pub mod Moment
pub mod Running
