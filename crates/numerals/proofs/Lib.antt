-- The laws that the proofs of this crate use.
mod Signs
mod Hexes
mod Back
pub mod Joins
