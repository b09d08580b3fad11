pub mod BadNumber
pub mod IndexBytes
pub mod IndexReading
pub mod KeyMoments
