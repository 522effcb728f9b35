-- The accounts of transactions, as their callers see them.

pub mod Books
