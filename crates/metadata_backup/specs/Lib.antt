pub mod Generations
pub mod Numbers
pub mod Replacing
pub mod Restores
pub mod Survey
