pub mod Numbers
pub mod Reclaims
pub mod Repairs
pub mod Reclaimed
pub mod Roomy
