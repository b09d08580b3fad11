pub mod Links
pub mod Halting
pub mod Joins
pub mod Moment
pub mod Either
