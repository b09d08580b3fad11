pub mod Cpixel
pub mod Tiles
pub mod Appends
pub mod Indexed
pub mod Areas
pub mod Reading
pub mod OneThing
pub mod Standard
