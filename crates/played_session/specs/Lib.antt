pub mod ReadAlike
pub mod Played
pub mod Recorder
pub mod Pictures
pub mod Recorded
