pub mod Blocks
pub mod Counts
pub mod Rows
pub mod Tally
pub mod Worked
