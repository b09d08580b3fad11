pub mod History
pub mod Named
pub mod Shares
pub mod Law
pub mod Reaches
pub mod Published
pub mod Publishing
pub mod Keeping
