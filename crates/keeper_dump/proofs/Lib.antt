pub mod DumpLaws
pub mod PageLaws
pub mod PartLaws
pub mod Ranges
pub mod RowLaws
