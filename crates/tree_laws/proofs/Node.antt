-- Nodes by their numbers: their order, what look-ups find, and what holds of each of them.
pub mod Ascend
pub mod Each
pub mod Handles
pub mod Keys
pub mod Kind
pub mod Limits
pub mod Mode
pub mod Order
pub mod Reading
pub mod Same
pub mod Subtree
pub mod Swap
