-- The program of a flat circuit: which lines are loose and which have a needing use, the translation, what translating answers; and what only inner contracts cite, `Model`.
pub mod Uses
pub mod Translation
pub mod Answers
pub mod Model
pub mod Examples
