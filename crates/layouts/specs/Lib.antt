pub mod Conversion
pub mod Examples
