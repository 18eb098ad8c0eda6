pub mod Languages
pub mod Letters
pub mod Octets
pub mod Ranges
pub mod Reports
pub mod Runs
pub mod Says
