pub mod Faults
pub mod Filling
pub mod Kitty
pub mod Once
pub mod Reading
