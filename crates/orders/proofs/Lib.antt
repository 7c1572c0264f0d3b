pub mod Answers
pub mod Determined
