pub mod Points
pub mod Plays
pub mod Sleeper
