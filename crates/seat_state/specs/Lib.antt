pub mod Answers
pub mod Calls
pub mod Keeping
pub mod Known
pub mod Opening
pub mod Over
pub mod Telling
