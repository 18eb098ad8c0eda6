pub mod Chains
pub mod DigitLaws
pub mod Extending
pub mod Fronts
pub mod LetterLaws
pub mod OctetLaws
pub mod Stages
