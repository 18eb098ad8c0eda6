pub mod KeyNames
pub mod Labels
pub mod Written
