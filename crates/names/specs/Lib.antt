pub mod Composed
pub mod PhysTable
pub mod Reads
pub mod Refusals
pub mod Variants
