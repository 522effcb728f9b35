-- Why no closed set costs less than the amounts at the start, and why the marked set is the smallest of least cost.

pub mod LowerBound
pub mod SmallestSet
