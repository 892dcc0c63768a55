pub mod Notes
pub mod Steps
pub mod Reread
pub mod Verdicts
