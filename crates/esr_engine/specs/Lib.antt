-- The contract of an embedded engine: it is never stuck, and it reports the account of each transaction.

pub mod Capacity
pub mod Accounts
pub mod ForUpdate
pub mod Carrying
pub mod WorkedExamples
