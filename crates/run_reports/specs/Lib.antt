pub mod Healths
pub mod Lines
pub mod Notices
pub mod EventCounts
pub mod State
pub mod Metrics
