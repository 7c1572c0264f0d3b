pub mod Lists
pub mod Orders
pub mod Walk
pub mod Calls
pub mod Told
pub mod Promises
pub mod AllOrders
