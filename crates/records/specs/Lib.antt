-- What the bytes of records mean, and when a record is refused (01, "Records", and the checks).
pub mod Bytes
pub mod Kinds
pub mod Check
pub mod Book
pub mod Mask
pub mod Gathered
pub mod Written
pub mod Read
pub mod WellFormed
pub mod Samples
