pub mod Rectangle
pub mod Reading
pub mod Answer
pub mod Follower
pub mod Followed
pub mod Example
pub mod Written
pub mod Planned
