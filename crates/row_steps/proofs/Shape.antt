-- What each change of rows makes of the tree that tables represent.
pub mod Absent
pub mod Attributes
pub mod Deletes
pub mod Entries
pub mod Names
pub mod Rows
pub mod Unlisted
