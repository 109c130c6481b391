pub mod Entries
pub mod Links
pub mod Moves
pub mod OldEntries
pub mod Places
pub mod Plans
