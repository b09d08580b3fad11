pub mod Anew
pub mod Failing
pub mod Following
pub mod Seeking
