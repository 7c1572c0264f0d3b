pub mod Fields
pub mod Line
pub mod Play
pub mod Listing
pub mod Written
pub mod Room
pub mod Promises
