pub mod Erasing
pub mod Formatting
pub mod Serving
pub mod Starting
pub mod Opening
