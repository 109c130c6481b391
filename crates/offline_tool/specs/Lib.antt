pub mod Input
pub mod Limits
pub mod Output
pub mod Reading
pub mod Runs
pub mod Serving
pub mod Turns
pub mod Words
