-- The machine words of a handle, events executed one after another, the findings of a query, and the carried transactions. Only
-- the exports use them.

pub mod Words
pub mod Called
pub mod ForUpdate
pub mod InTurn
pub mod Explained
pub mod Carried
