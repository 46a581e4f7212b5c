-- Lemmas that the functions' proofs use.
pub mod Letters
