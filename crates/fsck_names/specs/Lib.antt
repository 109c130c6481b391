pub mod Entries
pub mod Losing
pub mod Losses
pub mod Made
pub mod Numbers
pub mod Pass
pub mod Steps
pub mod Worked
