pub mod Heads
pub mod SequenceLaws
pub mod Telling
pub mod TextLaws
