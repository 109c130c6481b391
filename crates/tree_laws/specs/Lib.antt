pub mod Changes
pub mod Copies
pub mod Files
pub mod Growth
pub mod LockedTrees
pub mod Locks
pub mod Removals
pub mod Renames
