pub mod Beginnings
pub mod Fronts
pub mod Onlys
pub mod Places
pub mod Trims
