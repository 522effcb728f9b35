-- The plan of a drive file, and the text of its result, from its plan and its history. `Drafts`, `DrivePlans`,
-- `Tables` and `Readings` define the values of intermediate results in contracts.

pub mod Plan
pub mod Blocks
pub mod Text
pub mod Calls
pub mod Drafts
pub mod DrivePlans
pub mod Tables
pub mod Readings
