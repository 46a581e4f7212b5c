-- Lemmas on the definitions.
pub mod Undo
pub mod Table
