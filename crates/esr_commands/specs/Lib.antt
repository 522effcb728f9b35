-- The claim of a bundle about an audited query.

pub mod Claims
