pub mod Going
pub mod Reading
pub mod Claiming
pub mod Scribbling
