pub mod Outputs
pub mod Whole
pub mod Sample
