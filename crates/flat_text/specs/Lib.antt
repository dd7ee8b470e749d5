pub mod Printing
pub mod Model
