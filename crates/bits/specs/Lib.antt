pub mod Seek
pub mod Bits
