pub mod Bodies
pub mod Heads
pub mod Quads
