pub mod Masks
pub mod Clearing
pub mod Carrying
pub mod Booking
pub mod Freeing
