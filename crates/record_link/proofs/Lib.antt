pub mod Taping
pub mod Grown
pub mod Points
pub mod Talked
pub mod Linking
pub mod Played
