pub mod Branches
pub mod Levels
pub mod LockedRows
pub mod Plans
pub mod Removals
pub mod RemovedRows
