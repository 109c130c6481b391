pub mod FileLemmas
pub mod LengthLemmas
pub mod PieceLemmas
pub mod TrimmedLemmas
