pub mod Moment
pub mod Running
pub mod Sizes
