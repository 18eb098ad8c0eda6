pub mod Events
pub mod Numbered
