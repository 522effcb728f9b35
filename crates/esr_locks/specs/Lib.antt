-- Lock tables as their callers see them: modes, the row of an item, and the effect of one more lock and of a release.

pub mod Modes
pub mod Tables
pub mod LockEntries
