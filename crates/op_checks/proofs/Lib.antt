pub mod Forbidden
pub mod Nodes
pub mod RowKinds
