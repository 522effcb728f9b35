-- What blocks a line: the lock and its holder, the shortfall of a limit, and cycles of waits.

pub mod Locks
pub mod Shortfalls
pub mod Waits
