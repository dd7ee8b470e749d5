pub mod Work
pub mod Fits
pub mod Places
pub mod Passes
pub mod Signals
pub mod Answers
pub mod Feeding
