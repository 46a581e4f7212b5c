-- What one step of making the normal form does.
pub mod Pushed
pub mod Joining
