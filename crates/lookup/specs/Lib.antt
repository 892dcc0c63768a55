pub mod Walks
pub mod Fronts
pub mod Bits
pub mod Answers
