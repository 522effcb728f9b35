use Rattle.std.proofs.Common.{ℕ, ◌<◌}
use Rattle.std.specs.Prelude.{slice_index}
use Rattle.esr_text.specs.Markup.{IsNameByte}
use Rattle.esr_text.proofs.markup.is_name.Given as goal

abbrev pub invariant-loop-byte : goal.invariant-loop-byte
invariant-loop-byte l = (i : ℕ) → i < l.byte-index → IsNameByte (slice_index l.byte-items i)
