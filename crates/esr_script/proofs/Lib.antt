-- The loop over lines, with its buffer, its stages and its ends, writes the defined text. Only the bodies of this
-- crate use these lemmas.

pub mod Echoes
pub mod Handed
pub mod Steps
mod Unread
pub mod Held
pub mod Replays
pub mod Ends
pub mod Requests
pub mod Audits
pub mod Answering
pub mod Audited
pub mod Buffers
pub mod Opens
pub mod Kept
pub mod Places
