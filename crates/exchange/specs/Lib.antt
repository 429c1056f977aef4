pub mod Performs
pub mod Lines
