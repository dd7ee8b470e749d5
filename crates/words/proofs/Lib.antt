-- The laws of the word operators. The request's sentences about them at a general width: `Arithmetic`, `Division`, `Shifting`, `Detecting`. For other crates:
-- `Stands` and `Agree` (program and circuit agree), `Bounds` (results fit their widths), `Classes` (a program's operators by class), `KindLaws` (the
-- request's lists of kinds are the classes' rules), `Table` (tables compared by computing). The rest serves these and the functions' proofs.
pub mod Mod
pub mod Whole
pub mod Stands
pub mod Agree
pub mod Bounds
pub mod Classes
pub mod Table
pub mod KindLaws
pub mod Words
pub mod Signed
pub mod Divide
pub mod Shift
pub mod Integers
pub mod Arithmetic
pub mod Division
pub mod Shifting
pub mod Overflows
pub mod Wrapping
pub mod Detecting
