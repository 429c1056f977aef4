pub mod Ranges
pub mod Regions
pub mod Slots
pub mod Grounds
