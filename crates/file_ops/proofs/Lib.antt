mod BothTold
pub mod ChangedFew
mod ChangedNumbers
mod CountedPlaces
mod Counting
mod CutFiles
mod Drawn
mod DrawnFiles
mod FewPlaces
mod FileForms
mod FileSteps
mod FoundPlaces
mod HeldPlaces
mod KeptBlocks
mod KeptObjects
mod Left
mod Linking
mod Loaded
mod Losses
pub mod NamedBlocks
mod Needed
mod OldObjects
pub mod PlacedBlocks
mod PlacedForms
mod PutObjects
mod Puts
mod Ranges
mod Room
mod StoredPlaces
mod Trimmed
mod WrittenFiles
