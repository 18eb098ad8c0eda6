pub mod KittyBytes
pub mod Puts
pub mod Streams
pub mod KittyLaws
pub mod Numbers
