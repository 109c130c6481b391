pub mod BlockChanges
pub mod Changed
pub mod Counts
pub mod Kept
pub mod Shared
