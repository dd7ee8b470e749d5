pub mod Answers
pub mod Copying
pub mod Converting
pub mod Alike
pub mod Same
