pub mod Bit
pub mod Seeks
mod Zeros
