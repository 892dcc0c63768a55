pub mod Splitting
pub mod Besides
pub mod Stepping
pub mod Carrying
pub mod Marks
pub mod Puts
pub mod Copies
