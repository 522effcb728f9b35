-- The streaming audit: the query that is audited, the cost of versions, the states of items along the updates, and the accesses
-- of marked updates.

pub mod Reads
pub mod Query
pub mod Passes
pub mod Closing
