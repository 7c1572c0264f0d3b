pub mod Answers
-- the statements
pub mod Reading
pub mod Fresh
pub mod Agrees
pub mod Kept
pub mod Same
pub mod Plain
pub mod Stops
pub mod Refused
pub mod Last
pub mod Unheld
pub mod Others
pub mod Determined
-- the index by its words and bits, and a board by its buckets
pub mod Followed
pub mod Lots
mod Searching
-- the promises, call by call
mod Numbers
mod Turns
mod Retirings
mod Asked
