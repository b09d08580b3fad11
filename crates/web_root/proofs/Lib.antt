pub mod Rooting
