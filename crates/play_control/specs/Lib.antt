pub mod Times
pub mod Speeds
pub mod Request
pub mod Courses
