-- What only the contracts inside `uses`, `masks`, `passes` and `translating` cite: the translation as the code does it, by the words of records and by lists.
pub mod Kinds
pub mod Records
pub mod Passes
