pub mod Backward
pub mod Stepping
pub mod Fronting
pub mod Words
pub mod Counting
pub mod Claimed
