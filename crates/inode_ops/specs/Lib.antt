pub mod Answers
pub mod Nameless
pub mod Plans
pub mod SetAttrs
pub mod Tallies
pub mod Uses
