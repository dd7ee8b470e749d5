-- The laws of programs. For other crates: `Runs` (a flat circuit and its program run alike), `LaidLines` (they have as many state words, inputs and signals), `FreeCells` (and the
-- same free state words), `Accepted` (the program keeps the rules), `Done` (what a translation leaves is accepted), `Sample` (the request's example meets the premises). The rest
-- serves these.
pub mod Lists
pub mod Grew
pub mod Laid
pub mod LaidLines
pub mod Once
pub mod Accepted
pub mod FreeCells
pub mod Operator
pub mod Held
pub mod Needs
pub mod Values
pub mod StepLines
pub mod Runs
pub mod Done
pub mod Sample
pub mod Modelled
pub mod Keeping
pub mod Marking
pub mod Counting
pub mod Writing
pub mod Answering
