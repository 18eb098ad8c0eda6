pub mod Plain
pub mod Reading
