-- What the program's own functions tell each other.
pub mod Held
pub mod Prints
