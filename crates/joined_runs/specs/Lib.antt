pub mod Joined
pub mod Laws
pub mod Found
pub mod Tinted
