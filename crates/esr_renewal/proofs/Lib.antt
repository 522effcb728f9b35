-- Why a renewal can always carry the active transactions over.

-- open charges are at most what was charged
pub mod OpenCharges
pub mod Amounts
pub mod Exported
-- numbers, events, values and charges of a history that carries another
pub mod Renumbered
pub mod Replayed
pub mod Again
pub mod CarriedValues
pub mod CarriedCharges
pub mod OpenSums
pub mod CarriedEntries
-- each entry is accepted, in three phases
pub mod Accepts
pub mod AcceptsReads
pub mod Carry
