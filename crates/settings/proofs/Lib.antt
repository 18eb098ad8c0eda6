pub mod Listed
pub mod Stacked
