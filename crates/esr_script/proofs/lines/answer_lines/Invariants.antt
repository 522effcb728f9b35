use Rattle.std.proofs.Common.{◌≡◌, ℕ, ◌+◌, ◌-◌, ◌*◌, ◌≤◌, List, ◌++◌, Some, false, length}
use Rattle.std.specs.Io.KnownBytes.{Appends}
use Rattle.esr_base.specs.Watch.{inner, failed}
use Rattle.esr_script.specs.Parts.{InputProgress}
use Rattle.esr_script.proofs.lines.answer_lines.Given as goal

abbrev pub invariant-lines : goal.invariant-lines
invariant-lines g l = record {
  bound : l.count ≤ 2000000;
  reader : failed l.reader ≡ false;
  sink : g.S.Sink.has_failed l.sink ≡ false;
  text : (input : List ℕ) → g.R.Read.remaining (inner l.initial.reader) ≡ Some input → (sent : List ℕ)
      × Appends (g.S.Sink.contents l.initial.sink) (g.S.Sink.contents l.sink) sent
      × InputProgress input (g.R.Read.remaining (inner l.reader)) l.pending l.count l.script (sent ++ l.out);
}

-- a line more takes at most 201 bytes, and a read adds one at least
abbrev pub decreases-lines : goal.decreases-lines
decreases-lines g l = 202 * (2000001 - l.count) + (201 - length l.pending)
