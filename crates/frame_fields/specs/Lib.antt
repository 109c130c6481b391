pub mod Fields
pub mod Format
pub mod Frames
pub mod Unread
