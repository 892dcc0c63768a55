pub mod Flash
pub mod Faults
pub mod Ranges
pub mod Steps
pub mod Plans
