pub mod Stage
pub mod Telling
pub mod Scenes
pub mod Promises
pub mod Naming
