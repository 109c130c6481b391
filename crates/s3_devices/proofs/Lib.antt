pub mod KeyLemmas
pub mod ObjectLemmas
