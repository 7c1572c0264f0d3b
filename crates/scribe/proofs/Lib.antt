pub mod Answering
pub mod Determined
pub mod Twice
