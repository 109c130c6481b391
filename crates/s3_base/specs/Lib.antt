pub mod Errors
pub mod Faults
pub mod Memory
pub mod Names
pub mod Numbers
pub mod Stream
pub mod Writer
