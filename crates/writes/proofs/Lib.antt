pub mod Masks
pub mod Allowing
pub mod Fetching
