pub mod Openings
pub mod Reeling
pub mod Hearing
pub mod Handshakes
pub mod Playing
pub mod Laws
pub mod Endings
