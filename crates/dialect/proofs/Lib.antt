pub mod Decimals
pub mod StreamLaws
pub mod Typing
pub mod Writing
