-- How a run goes over the lines of a history's script.
pub mod Prefixes
pub mod Steps
pub mod Items
pub mod Entries
pub mod Restored
