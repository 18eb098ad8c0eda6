pub mod Backward
pub mod Bounds
pub mod Clearness
pub mod Inverse
pub mod Numbers
pub mod Texts
pub mod Verdicts
