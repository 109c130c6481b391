-- A copy of a subtree: its numbers, its nodes, and what stays apart.
pub mod Law
pub mod Nodes
pub mod Numbers
pub mod Sides
