pub mod Operations
pub mod Replies
pub mod Replay
pub mod Answers
pub mod Rules
