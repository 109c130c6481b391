-- Tables that represent a well-formed tree are valid, part by part.
pub mod Apart
pub mod Each
pub mod Entries
pub mod Inodes
pub mod Names
pub mod Premises
pub mod Steps
pub mod Tables
