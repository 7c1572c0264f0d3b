pub mod Trial
pub mod Trials
pub mod Figures
