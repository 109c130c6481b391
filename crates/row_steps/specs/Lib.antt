pub mod Owed
pub mod RowChanges
