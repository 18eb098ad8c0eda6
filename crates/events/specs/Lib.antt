pub mod Checks
pub mod Events
pub mod Faults
pub mod Kinds
pub mod Passed
pub mod Refusals
