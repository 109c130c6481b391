-- The tree of valid tables is well formed, part by part.
pub mod Listed
pub mod Opened
pub mod Rows
pub mod Tree
