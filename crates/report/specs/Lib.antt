pub mod EndingLaws
pub mod Endings
pub mod Letters
pub mod Made
pub mod Meanings
pub mod Pushes
pub mod Sound
pub mod Telling
