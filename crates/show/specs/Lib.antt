pub mod Marked
pub mod Shown
