-- The bytes of files, and operations that change one node.
pub mod Alone
pub mod Bytes
pub mod Unwritten
pub mod Written
