-- What the contracts cite.
pub mod Case
pub mod Split
