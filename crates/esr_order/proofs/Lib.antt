-- Why commit order is a serial order, closed sets are the parts of placements, and the updates that are relevant to a query
-- suffice. `ConflictOrder` and `RelevantLaws` are used by audits; the other modules carry the walk back over the log.

pub mod Lists
pub mod ValueLists
pub mod Writers
pub mod Placed
pub mod ConflictOrder
pub mod Entries
pub mod Kept
pub mod Batches
pub mod Chained
pub mod Fewer
pub mod Linked
pub mod Accessed
pub mod Sparse
pub mod Spans
pub mod Commits
pub mod Ended
pub mod Settled
pub mod Rowed
pub mod Indexes
pub mod Amid
pub mod RelevantLaws
pub mod RelevantFound
pub mod Gathering
pub mod BackwardSearch
pub mod Sorted
pub mod Placing
pub mod Early
pub mod Complete
pub mod Gathered
pub mod Meets
pub mod Least
pub mod QueryReads
