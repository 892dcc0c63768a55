pub mod Refusals
pub mod Formats
pub mod Memories
pub mod Calls
