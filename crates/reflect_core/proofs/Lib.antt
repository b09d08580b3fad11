pub mod Vectors
pub mod FillLaws
pub mod PassLaws
pub mod CutLaws
