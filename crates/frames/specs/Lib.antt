pub mod Frames
pub mod Memories
