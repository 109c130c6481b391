pub mod Closed
pub mod Counted
pub mod NameUses
pub mod NewLink
pub mod NodeRows
pub mod Opened
pub mod Planned
mod RowCounts
pub mod SetAttrs
pub mod Sums
pub mod Walked
