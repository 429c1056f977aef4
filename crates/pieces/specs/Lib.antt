pub mod Pieces
pub mod Refused
