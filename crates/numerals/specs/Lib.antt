-- What the contracts of this crate cite.
pub mod Hexes
pub mod Numbers
