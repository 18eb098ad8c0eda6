pub mod Entries
pub mod Onward
pub mod Runs
