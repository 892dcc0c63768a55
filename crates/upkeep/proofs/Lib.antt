pub mod Mending
pub mod Moving
pub mod Repairing
pub mod Rooming
