-- The laws that the proofs of this crate use.
mod Blanks
pub mod Cuts
mod Entries
