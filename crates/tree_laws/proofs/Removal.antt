-- What a removal of a subtree takes away.
pub mod Law
