-- Laws that the functions' proofs cite; the functions' own proofs stand in folders of their names.
pub mod Printing
