pub mod Growing
pub mod Fitting
pub mod Closing
pub mod Copying
pub mod Dropping
