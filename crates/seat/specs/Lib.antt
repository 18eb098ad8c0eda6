pub mod Modes
pub mod Refusals
pub mod Seats
