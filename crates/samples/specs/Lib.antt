pub mod Samples
pub mod Reclaiming
