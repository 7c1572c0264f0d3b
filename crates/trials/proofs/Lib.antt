pub mod TheTrials
pub mod TheFigures
