-- What a stream of records is (01, "The line program").
pub mod Stream
pub mod Samples
