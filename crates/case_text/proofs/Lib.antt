-- Lemmas that several answers cite.
pub mod Decimal
