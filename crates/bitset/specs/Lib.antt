-- What the code says of sets beside the model's definitions.
pub mod Difference
pub mod First
pub mod Listed
