-- The types of events, replies and entries, passed on from one place. Declares nothing.
pub use Rattle.esr_base.specs.declared.numbers.TxnId.{TxnId}
pub use Rattle.esr_base.specs.declared.numbers.ItemId.{ItemId}
pub use Rattle.esr_history.specs.declared.event.Event.{Event}
pub use Rattle.esr_history.specs.declared.event.Event.TheVariants.{BeginUpdate, BeginQuery, Read, Write, Commit, Abort}
pub use Rattle.esr_history.specs.declared.event.Reply.{Reply}
pub use Rattle.esr_history.specs.declared.event.Reply.TheVariants.{Refused, Value, Begun, Wrote, Committed}
pub use Rattle.esr_history.specs.declared.event.Refusal.{Refusal}
pub use Rattle.esr_history.specs.declared.event.Refusal.TheVariants.{NoSuchTransaction, AlreadyEnded, NoSuchItem, QueryMayNotWrite, LimitOutOfRange, TooManyTransactions, TooManyReads}
pub use Rattle.esr_history.specs.declared.event.Entry.{Entry}
