pub mod Questions
pub mod Edits
pub mod Refused
