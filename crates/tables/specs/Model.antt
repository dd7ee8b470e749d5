pub mod Notes
pub mod Risen
