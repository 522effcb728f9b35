-- The words of events, replies and values that the definitions and proofs of this crate cite, passed on from one place.
-- Declares nothing.
pub use Rattle.esr_base.specs.declared.numbers.ItemId.{ItemId}
pub use Rattle.esr_items.specs.declared.store.Versions.{Versions}
pub use Rattle.esr_base.specs.declared.numbers.TxnId.{TxnId}
pub use Rattle.esr_history.specs.declared.event.Event.{Event}
pub use Rattle.esr_history.specs.declared.event.Event.TheVariants.{BeginUpdate, BeginQuery, Read, Write, Commit, Abort}
pub use Rattle.esr_history.specs.declared.event.Reply.{Reply}
pub use Rattle.esr_history.specs.declared.event.Reply.TheVariants.{Refused, Begun, Committed, Aborted, Value, Wrote}
pub use Rattle.esr_history.specs.declared.event.Refusal.{Refusal}
pub use Rattle.esr_history.specs.declared.event.Refusal.TheVariants.{BlockedByImport, BlockedByExport, TooManyReads, QueryMayNotWrite, AlreadyEnded, NoSuchTransaction}
pub use Rattle.esr_history.specs.declared.event.Entry.{Entry}
