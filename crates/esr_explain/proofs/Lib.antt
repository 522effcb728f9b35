-- The accesses are those that are shown.

pub mod Amongst
pub mod Compared
pub mod Sent
