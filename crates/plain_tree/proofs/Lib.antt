mod Reached
pub mod Changes
pub mod Handles
pub mod Replies
