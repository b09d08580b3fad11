pub mod Alike
pub mod Anewing
pub mod Feeding
pub mod Pieces
pub mod Rebuilt
pub mod Sought
pub mod Steps
pub mod Stopping
