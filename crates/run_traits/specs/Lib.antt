pub mod Trails
pub mod Unused
pub mod LinkTrails
pub mod Either
