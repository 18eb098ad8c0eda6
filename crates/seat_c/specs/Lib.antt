pub mod Encoding
pub mod Keys
pub mod Reports
pub mod Requests
