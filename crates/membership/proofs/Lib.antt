-- Laws of words and marks, and what the loops keep; the proofs of functions stand in folders of their names.
pub mod Strange
pub mod Moving
pub mod Behind
pub mod Pass
pub mod Comparing
