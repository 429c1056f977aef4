pub mod Changes
pub mod Failures
