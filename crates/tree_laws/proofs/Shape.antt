-- One tree of names without orphans: what a tree is apart from bytes and times, and what each operation does to that.
pub mod Above
pub mod Below
pub mod Branch
pub mod Copy
pub mod Count
pub mod Definition
pub mod Gain
pub mod Loss
pub mod Made
pub mod Named
pub mod Operations
pub mod Steps
pub mod Subtree
pub mod Tree
pub mod Words
