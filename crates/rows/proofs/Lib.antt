mod Ones
pub mod Flashes
