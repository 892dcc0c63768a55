pub mod Bytes
pub mod Fronts
pub mod Flaws
pub mod Checks
pub mod Examined
pub mod Surveys
pub mod Sevens
