-- What the operations answer and write, for all inputs (01, "The four operations and when they turn back").
pub mod Props
pub mod Pair
pub mod Buffer
pub mod Narrow
pub mod Placed
pub mod Tidy
pub mod Try
pub mod Samples
