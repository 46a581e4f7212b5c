-- Laws of the passes, and what the loops keep; the proofs of functions stand in folders of their names.
pub mod Gathering
pub mod Leading
pub mod Targets
pub mod Remembered
pub mod Rounds
pub mod Narrowing
pub mod Levels
pub mod Rows
pub mod Stored
pub mod Forth
pub mod Placing
pub mod Returning
pub mod Whole
