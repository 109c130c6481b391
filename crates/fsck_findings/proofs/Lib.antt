pub mod Looked
pub mod InUse
