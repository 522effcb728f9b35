use Rattle.std.proofs.Common.{[], sym, subst, append-nil}
use Rattle.std.proofs.KnownBytes.{Appends-nil}
use Rattle.esr_script.specs.Parts.{is_read_fault, is_write_fault}
use Rattle.esr_script.specs.Run.{IsRunBy}
use Rattle.esr_script.proofs.Handed.{handed_on}
use Rattle.esr_script.proofs.Held.{held_kept, held_lost, begins_part, not_written}
use Rattle.esr_script.proofs.runs.send_rest.Goals as goal

pub returns-then-is_lost-clause-text : goal.returns-then-is_lost-clause-text
returns-then-is_lost-clause-text g c input sent left held = (
  [],
  Appends-nil _,
  subst (IsRunBy input left c.args.ended) (sym (append-nil sent)) (held_lost input left c.args.out.now.items c.args.ended sent (sym c.if-is_lost.ensures) c.requires.read held),
)

pub returns-in_err-send_all-clause-text : goal.returns-in_err-send_all-clause-text
returns-in_err-send_all-clause-text g c input sent left held =
    let kept = held_kept input left _ c.args.ended sent (not_written (is_read_fault c.args.ended) (is_write_fault c.args.ended) (sym c.if-is_lost.ensures)) held in
    let failed = c.in_err-send_all.ensures.err in
    let part = failed.1 in
    (part.0, part.2, rw (handed_on _ _ c.from_residual.ensures.1, failed.0) (begins_part _ sent _ part.0 kept.0 part.1))

pub returns-clause-text : goal.returns-clause-text
returns-clause-text g c input sent left held =
    let kept = held_kept input left _ c.args.ended sent (not_written (is_read_fault c.args.ended) (is_write_fault c.args.ended) (sym c.if-is_lost.ensures)) held in
    (c.args.out.now.items, c.in_ok-send_all.ensures.ok.1, kept.1)
