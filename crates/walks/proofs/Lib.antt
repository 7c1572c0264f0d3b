-- the statements
pub mod TheOrders
pub mod Determined
-- the list of all orders
pub mod Members
pub mod Listed
pub mod Lists
-- what is counted over it is what the recursion comes to
pub mod Counted
pub mod Three
pub mod Together
-- the class that the call accepts, and the engine's run on it
pub mod Classes
pub mod Sitting
pub mod Going
-- the code
pub mod Outcomes
pub mod Walking
pub mod Bounds
