-- Proves that the ends of all active transactions always fit, and the contracts of counts, reads for update and
-- renewals.

pub mod Active
pub mod Ends
pub mod Stepped
pub mod Accounts
pub mod Locking
pub mod RenewalLaws
pub mod Reports
pub mod ActiveOperations
pub mod ActivePlaces
pub mod CarriedParts
pub mod CarriedEngine
