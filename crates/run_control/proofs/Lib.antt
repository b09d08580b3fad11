pub mod Numbers
pub mod Happenings
pub mod Calls
