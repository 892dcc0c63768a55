pub mod Keeping
pub mod Carrying
pub mod Frames
