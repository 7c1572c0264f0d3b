pub mod Choices
pub mod Counts
mod Empties
pub mod Field
pub mod Fields
pub mod FirstEmpty
mod Masks
pub mod OneAnswer
pub mod Slots
pub mod WellFormed
