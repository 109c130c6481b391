pub mod DiskAnswers
pub mod DiskBytes
pub mod Keys
pub mod LinkAnswers
pub mod Objects
pub mod Told
