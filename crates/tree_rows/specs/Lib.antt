pub mod Attrs
pub mod Contents
pub mod Listings
pub mod NamedAttrs
pub mod Premises
pub mod Shapes
pub mod Spots
