pub mod Bits
pub mod Codes
pub mod Controls
pub mod KeyMaps
pub mod PhysMaps
