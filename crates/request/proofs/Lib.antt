pub mod Alone
pub mod Digits
pub mod Shapes
pub mod Strings
pub mod Turns
