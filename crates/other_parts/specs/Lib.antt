pub mod Bases
pub mod Unshifted
pub mod Waiting
pub mod Within
