pub mod ListingLeast
pub mod ListingOrder
pub mod ListingPages
