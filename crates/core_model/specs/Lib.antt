pub mod Bytes
pub mod Changes
pub mod Exact
pub mod Occurring
pub mod Safe
pub mod Worked
