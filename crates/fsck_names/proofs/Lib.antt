mod LostPlaces
pub mod Greatest
pub mod Loops
pub mod MovedNames
pub mod Removed
pub mod Searches
pub mod Taken
