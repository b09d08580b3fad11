pub mod Request
pub mod Doors
pub mod Runs
