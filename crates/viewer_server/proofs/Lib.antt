pub mod Saying
pub mod Reading
pub mod Leaving
pub mod Following
pub mod Lasting
pub mod Servings
pub mod Served
pub mod Visited
