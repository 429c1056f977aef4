-- What the contracts of this crate cite.
pub mod Lines
pub mod Parts
pub mod Words
