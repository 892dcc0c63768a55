pub mod Writing
pub mod Laid
pub mod Sane
