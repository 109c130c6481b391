pub mod Listed
pub mod Missing
pub mod Numbers
pub mod Store
pub mod Worked
