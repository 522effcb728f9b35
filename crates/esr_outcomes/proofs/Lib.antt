-- What audits find, and the values after accesses.

pub mod Accessed
