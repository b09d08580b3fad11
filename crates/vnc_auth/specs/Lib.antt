pub mod Answer
pub mod Bits
pub mod Des
pub mod Password
