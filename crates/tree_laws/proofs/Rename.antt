-- What a rename moves.
pub mod Apart
pub mod Entry
mod Nodes
pub mod Shape
