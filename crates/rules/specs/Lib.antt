pub mod Firsts
pub mod Breaches
pub mod Bytes
