-- What the code's inner contracts and the proofs say of the operators, class by class. No public promise rests on it.
pub mod Classes
pub mod Widths
pub mod Loose
