pub mod Marked
pub mod LookedBlocks
