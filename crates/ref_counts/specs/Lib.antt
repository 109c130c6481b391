pub mod Answers
pub mod Handles
pub mod Links
pub mod Names
pub mod Pending
pub mod Plans
pub mod Removals
