-- `Outcomes`: the kind of a transaction, and the distance of a query. `ValuesAfter`: the value of each item after the accesses
-- of some updates.

pub mod Outcomes
pub mod ValuesAfter
