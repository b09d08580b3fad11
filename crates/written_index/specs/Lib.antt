pub mod Failing
pub mod Paths
pub mod Reasons
pub mod Written
