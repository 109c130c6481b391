-- The names of entries and of attributes: their order, that they are legal, and what look-ups find by them.
pub mod Legal
pub mod Order
pub mod Reading
pub mod Rise
