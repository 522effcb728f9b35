use Rattle.std.proofs.Common.{◌≡◌, ◌≤◌, ◌-◌, ◌<◌, false, length}
use Rattle.std.specs.Io.KnownBytes.{Consumes}
use Rattle.esr_base.specs.Watch.{inner, failed}
use Rattle.esr_bundle.proofs.judgement.read_all.Given as goal

abbrev pub invariant-chunks : goal.invariant-chunks
invariant-chunks g l = record {
  bound : length l.bytes.items ≤ 64000000;
  read : Consumes (g.R.Read.remaining (inner l.initial.reader)) (g.R.Read.remaining (inner l.reader)) l.bytes.items;
  chunk_buffer : 0 < length l.chunk.items;
  failed : failed l.reader ≡ false;
}

abbrev pub decreases-chunks : goal.decreases-chunks
decreases-chunks g l = 64000001 - length l.bytes.items
