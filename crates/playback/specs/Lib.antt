pub mod BadNumber
pub mod Files
pub mod Opening
pub mod Openings
pub mod Heard
pub mod Reels
pub mod Playing
