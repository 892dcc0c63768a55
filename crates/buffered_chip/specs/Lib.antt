pub mod Plans
pub mod Buffers
