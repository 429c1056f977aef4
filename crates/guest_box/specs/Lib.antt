pub mod Memories
pub mod Changes
