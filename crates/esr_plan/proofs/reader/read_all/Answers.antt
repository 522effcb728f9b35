use Rattle.std.proofs.Common.{rules, ◌++◌, take, refl, ◌∙◌, arith, is_ok}
use Rattle.std.proofs.lemmas.Grind.{common_steps}
use Rattle.std.specs.Io.KnownBytes.{Consumes}
use Rattle.esr_base.specs.Watch.{inner, failed}
use Rattle.esr_plan.proofs.Cuts.{mark_grown, taken, whole_fine, read_fault, not_read_error, not_failed}
use Rattle.esr_plan.proofs.reader.read_all.Goals as goal

pub returns-in-Ok-eq0-clause-fine : goal.returns-in-Ok-eq0-clause-fine
returns-in-Ok-eq0-clause-fine g c =
    let inv = c.loop.invariant in
    whole_fine c.loop.bytes.items c.loop.mark.start c.loop.mark.lines inv.3.2 inv.4

pub check_lines-requires : goal.check_lines-requires
check_lines-requires g c =
    let inv = c.loop.invariant in
    let more = take c.in-Ok-read.count c.deref.result.now in
    let grown = taken (is_ok c.extend_from_slice.result) (c.loop.bytes.items ++ more) c.loop.bytes.items c.extend_from_slice.new.self.items c.extend_from_slice.ensures.items (search rules) in
    mark_grown c.loop.bytes.items c.deref-in-loop.result.now more c.loop.mark.start c.loop.mark.lines (c.deref-in-loop.ensures.value ∙ grown) inv.3.0 inv.3.1 inv.3.2

pub returns-in-Err-check_lines-clause-faults : goal.returns-in-Err-check_lines-clause-faults
returns-in-Err-check_lines-clause-faults g c =
    let all : Consumes (g.R.Read.remaining (inner c.args.reader.now)) (g.R.Read.remaining (inner c.read.new.self)) c.deref-in-loop.result.now = grind (arith, common_steps) in
    read_fault (g.R.Read.remaining (inner c.args.reader.now)) (g.R.Read.remaining (inner c.read.new.self)) c.deref-in-loop.result.now c.in-Err-check_lines.fault all c.in-Err-check_lines.ensures.err

pub returns-in-Err-check_lines-clause-failed : goal.returns-in-Err-check_lines-clause-failed
returns-in-Err-check_lines-clause-failed g c = (
  (λ on. absurd (not_failed (failed c.read.new.self) (search rules) on)),
  (λ is. absurd (not_read_error _ c.deref-in-loop.result.now c.in-Err-check_lines.fault c.in-Err-check_lines.ensures.err refl is)),
)
