pub mod Dump
pub mod Kept
pub mod Part
pub mod RowFields
