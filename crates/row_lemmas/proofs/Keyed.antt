-- Lists of rows by key, over any order that is total.
pub mod Count
pub mod Filter
pub mod Length
pub mod Place
pub mod Put
pub mod Rest
pub mod Rises
pub mod RowAt
pub mod Sorted
pub mod Without
