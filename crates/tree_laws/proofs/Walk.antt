-- One walk over all operations: what each writes and makes, what its checks say, and what comes of that after any calls.
pub mod Calls
pub mod Edits
pub mod Operations
pub mod Passed
