-- What a lock keeps: the node itself, the entry that names it, and all below it.
mod Entry
pub mod Node
pub mod Refusal
pub mod Run
pub mod Tree
