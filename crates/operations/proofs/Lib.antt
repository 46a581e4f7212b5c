-- Laws that the functions' proofs cite; the functions' own proofs stand in folders of their names. The checker goes by name, so
-- the samples come first: a wrong definition is refused by a row that it breaks.
pub mod AllSamples
pub mod Order
pub mod Pairs
pub mod Putting
pub mod Passing
pub mod Judging
pub mod NarrowPromise
pub mod Lists
pub mod Told
pub mod EntryNumbers
pub mod Placed
pub mod Joining
pub mod Tidying
pub mod Trying
