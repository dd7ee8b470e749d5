-- The claim of demand 3, and what ids have no part in.
pub mod Comparison
pub mod Ids
