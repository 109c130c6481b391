-- How many entries name an inode, operation by operation.
pub mod Changes
pub mod Copies
pub mod Law
pub mod Sums
