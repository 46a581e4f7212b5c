-- What the line program prints (01, "The line program").
pub mod Text
pub mod Line
pub mod Sums
pub mod Output
pub mod Parts
pub mod Session
pub mod Samples
