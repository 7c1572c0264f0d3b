pub mod Acted
pub mod Lent
pub mod Running
pub mod Told
pub mod Calls
pub mod Promises
