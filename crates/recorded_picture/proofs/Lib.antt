pub mod Avoids
pub mod Shows
