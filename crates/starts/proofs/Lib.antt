pub mod Inits
pub mod Masking
