use Rattle.std.proofs.Common.{◌≡◌, ◌∙◌, List, ap, sym, subst, arith, take, Some, slice_get}
use Rattle.esr_history.specs.declared.event.Entry.{Entry}
use Rattle.esr_tables.specs.Entries.{AreTallies}
use Rattle.esr_tables.proofs.Places.{take_next}
use Rattle.esr_tables.proofs.tallies.tallies.Goals as goal

pub loop-place-preserved : goal.loop-place-preserved
loop-place-preserved c =
    let es = c.args.history.now.schedule.entries in let i = c.loop-place.place in let e = c.in-Some.entry in
    let is : slice_get es i ≡ Some e = sym (c.in-Some.ensures ∙ ap (λ l. slice_get l i) c.log-log.ensures.entries) in (
      omega (arith, c.loop-place.invariant.0, c.count.ensures.length),
      subst (λ (l : List Entry). AreTallies l c.count.new.tallies.items) (sym (take_next es i e is)) (c.count.ensures.tallies (take i es) c.loop-place.invariant.1),
    )
