pub mod Keeping
pub mod Steps
pub mod Spelling
pub mod Reading
