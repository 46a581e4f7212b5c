-- What the functions of the passes give: sets of states and letters, and the entries of the narrowed list.
pub mod Moves
pub mod Known
pub mod Rows
