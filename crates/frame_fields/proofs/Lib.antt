pub mod Within
pub mod Formats
pub mod Tagged
pub mod Lists
pub mod Options
pub mod FieldLemmas
pub mod Frames
pub mod Bounds
