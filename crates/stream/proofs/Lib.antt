-- Laws of what stands next; the proofs of functions stand in folders of their names.
pub mod AllSamples
pub mod Following
