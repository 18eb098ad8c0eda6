pub mod Declining
pub mod Leaving
pub mod Tells
