pub mod Numbers
pub mod Rows
pub mod Stack
