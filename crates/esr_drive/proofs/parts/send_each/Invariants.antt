use Rattle.std.proofs.Common.{◌≡◌, take, flat_map}
use Rattle.std.specs.Io.KnownBytes.{Appends}
use Rattle.esr_base.specs.Watch.{inner, failed}
use Rattle.esr_drive.proofs.parts.send_each.Given as goal

-- the parts so far are written
abbrev pub invariant-loop-part : goal.invariant-loop-part
invariant-loop-part g l = record {
  written : Appends (g.W.Write.contents (inner l.initial.writer)) (g.W.Write.contents (inner l.writer)) (flat_map (λ part. part.items) (take l.part-index l.parts));
  failed : failed l.writer ≡ failed l.initial.writer;
}
