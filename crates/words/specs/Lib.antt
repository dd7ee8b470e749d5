-- What the word operators mean, in circuits and in programs, and which kinds of a program are loose or need clean operands. `Model` is
-- the code's and the proofs' view of them.
pub mod Word
pub mod Op
pub mod Overflow
pub mod Circuit
pub mod Program
pub mod Kinds
pub mod Values
pub mod Model
