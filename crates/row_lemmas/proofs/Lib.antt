pub mod Filters
pub mod Keyed
pub mod ReplacedInode
pub mod Sums
pub mod Tables
pub mod Tests
