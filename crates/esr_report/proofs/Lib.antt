-- The places of names in their table, and the joining of words.

pub mod Positions
pub mod Joins
pub mod Keys
pub mod Keyed
pub mod Stored
