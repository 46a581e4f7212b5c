-- What document 01 means, in its order. Nothing here is proved; proofs/ shows what follows.
pub mod Text
pub mod Refusal
pub mod Set
pub mod DashedString
pub mod Automaton
pub mod Membership
pub mod Legal
pub mod Passes
pub mod NormalForm
pub mod Verdict
pub mod Place
pub mod Demand3
pub mod Size
pub mod Trials
