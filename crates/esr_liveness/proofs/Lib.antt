-- The laws, reason by reason.
pub mod Reasons
pub mod Alone
pub mod Blockers
pub mod Ends
