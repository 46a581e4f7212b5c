-- Laws of the definitions, and what the loops keep; the proofs of functions stand in folders of their names.
pub mod AllSamples
pub mod Appending
pub mod Summing
pub mod Answered
pub mod Stepping
pub mod Running
pub mod Openings
pub mod Sessions
