pub mod Filed
pub mod Holders
pub mod Index
pub mod Indexes
pub mod Memory
pub mod Store
pub mod Table
