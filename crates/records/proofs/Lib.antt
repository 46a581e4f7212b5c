-- Laws of the definitions, and what the loops keep; the proofs of functions stand in folders of their names. The checker goes
-- by name, so the samples come first: a wrong definition is refused by a record that it misreads.
pub mod AllSamples
pub mod Numbers
pub mod Offsets
pub mod Checks
pub mod WellFormed
pub mod Over
pub mod RoundTrip
pub mod Stores
pub mod Copies
pub mod Words
pub mod Walk
pub mod Taking
pub mod Next
pub mod Answers
