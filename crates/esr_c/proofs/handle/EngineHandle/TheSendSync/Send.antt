-- An engine may go to another thread, as its box may.
use Rattle.esr_history.specs.Machine.{Schedule}
use Rattle.std.specs.Prelude.{Option, None, Some}
use base.Shift.{Keyless}
use mir.Raw.{raw}
use denote.Memory.{lone}
use denote.RawPtr.{Ptr}
use denote.Param.Send.{IsSend, owning_send, sendable}
use Rattle.std_alloc.proofs.SendSync.{lies}
use Rattle.std.below.std_heap.proofs.GlobalAllocator.TheSendSync.{the_frees}
use Rattle.esr_engine.proofs.engine.EmbeddedEngine.TheSendSync as EmbeddedEngine
use Rattle.esr_c.specs.Owned.{engine_row, owned}
use Rattle.esr_c.specs.contracts.handle.EngineHandle.{the_row, the_type}

engine_sends : IsSend engine_row
engine_sends = EmbeddedEngine.the_send

keyless : (p : Ptr) (x : Option Schedule) → Keyless (owned p x)
unfolding owned
keyless p None = tt
keyless p (Some m) = (lies engine_row engine_sends p m, the_frees.frees _ (raw (lone engine_row.mir)) p)

pub send : IsSend the_row
send = owning_send the_type (search sendable, tt) (λ d. keyless d.at d.history) (λ k x w. tt)
