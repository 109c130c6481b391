-- What each change of rows makes of the counts that tables owe, table by table.
pub mod Attrs
pub mod Contents
pub mod Draws
pub mod Ends
pub mod Inodes
pub mod Lowered
pub mod Names
pub mod Raised
