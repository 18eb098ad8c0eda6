pub mod FillLaws
pub mod KittyReading
pub mod Readers
