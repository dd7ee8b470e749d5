pub mod Stages
pub mod Structs
pub mod Ends
pub mod Filling
pub mod Chains
pub mod Searching
