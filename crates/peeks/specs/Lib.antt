pub mod Peek
pub mod Model
pub mod Examples
