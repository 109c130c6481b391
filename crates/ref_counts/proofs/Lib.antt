pub mod AttrKeys
pub mod Held
pub mod Idle
pub mod LastChanges
pub mod Named
pub mod NamedRows
pub mod NextPlaces
pub mod NonEmpty
pub mod Numbers
pub mod Overlay
mod Relinked
pub mod Rest
pub mod ShortPages
pub mod Told
