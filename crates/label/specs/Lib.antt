pub mod Fields
pub mod Labels
pub mod Read
pub mod Found
pub mod Written
pub mod Pages
