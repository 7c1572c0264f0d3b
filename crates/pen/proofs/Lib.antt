pub mod Decimal
pub mod Determined
pub mod Putting
pub mod Writing
