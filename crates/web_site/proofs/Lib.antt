pub mod Letting
