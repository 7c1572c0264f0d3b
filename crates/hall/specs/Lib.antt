pub mod Index
pub mod Refusals
pub mod Totalled
pub mod Next
pub mod Calls
pub mod Promises
pub mod Reading
