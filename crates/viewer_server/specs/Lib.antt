pub mod Serving
pub mod Steps
pub mod Moment
pub mod Following
