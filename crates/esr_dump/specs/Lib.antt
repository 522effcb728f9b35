-- The script of a history, by the names that it uses, and that running it recreates the history.

pub mod Naming
pub mod Lines
pub mod RoundTrip
