-- What document 01 says of letters and their signs. Nothing here is proved; proofs/ shows what follows.
pub mod Alphabet
