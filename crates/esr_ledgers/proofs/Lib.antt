-- The effect of a charge on both sides, and the search for an account. Only functions of this crate use them.

pub mod Finds
pub mod Books
