pub mod Addresses
pub mod Permitted
