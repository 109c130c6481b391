pub mod Answers
pub mod Operations
pub mod Replay
pub mod Replies
pub mod Rules
