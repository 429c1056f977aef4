pub mod Tables
pub mod Places
pub mod Made
pub mod Found
pub mod Kept
pub mod Changed
