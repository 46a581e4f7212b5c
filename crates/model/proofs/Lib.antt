-- The checker goes by name, so the trial rows come first: a wrong definition is refused by a row that it breaks.
pub mod AllTrials
pub mod Set
pub mod Automaton
pub mod Words
pub mod Steps
pub mod Segment
pub mod Segments
pub mod Cut
pub mod Entry
pub mod Listed
pub mod Membership
pub mod NormalForm
pub mod Room
pub mod Demand3
