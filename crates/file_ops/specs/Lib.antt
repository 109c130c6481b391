pub mod FileBytes
pub mod FileChanges
pub mod FileFaults
pub mod Loads
pub mod NewBlocks
pub mod Placed
pub mod Resolved
