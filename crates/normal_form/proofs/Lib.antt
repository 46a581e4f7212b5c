-- Laws that the loop cites; the proofs of functions stand in folders of their names.
pub mod Turns
