pub mod Ledger
pub mod Runs
pub mod Law
