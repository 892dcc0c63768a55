pub mod Searches
pub mod Tally
pub mod Places
pub mod Turns
pub mod Directories
pub mod Logs
pub mod Rules
pub mod States
