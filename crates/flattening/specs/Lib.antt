pub mod Flat
pub mod Placed
pub mod Answers
pub mod Examples
pub mod Model
