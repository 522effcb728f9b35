use Rattle.std.proofs.Common.{◌≡◌, sym, ◌∙◌, ap, subst, reverse, List, ◌∷◌, []}
use Rattle.std.specs.List.{cons_option}
use Rattle.std.proofs.lemmas.List.{reverse-append}
use Rattle.esr_order.specs.Scans.{access_at, Access}
use Rattle.esr_order.proofs.Accessed.{IsBackTo, back_none, back_more, back_smaller, back_done}
use Rattle.esr_order.proofs.accesses.list_accesses.Goals as goal
use Rattle.esr_order.proofs.accesses.list_accesses.Goals.{in-Some-access_at+in_ok-push, in_default-access_at}

pub loop-next-init : goal.loop-next-init
loop-next-init g c =
    let es = c.args.history.now.schedule.entries in
    let empty : c.clear.new.self.items ≡ [] = c.clear.ensures.items in
    subst (λ l. IsBackTo es c.args.t.0 l c.last_of_txn-next.result) (sym empty) (back_none es c.args.t.0 c.last_of_txn-next.result c.last_of_txn-next.ensures)

pub loop-next-smaller : goal.loop-next-smaller
loop-next-smaller g c = back_smaller c.args.history.now.schedule.entries c.args.t.0 c.loop-next.accesses.items c.loop-next.next c.loop-next.invariant c.in-Some.i c.in-Some.is c.earlier_of_txn-next.result c.earlier_of_txn-next.ensures

pub loop-next-preserved : goal.loop-next-preserved
loop-next-preserved g c =
    let es = c.args.history.now.schedule.entries in
    let found : c.access_at.result ≡ access_at es c.in-Some.i = c.access_at.ensures ∙ ap (λ l. access_at l c.in-Some.i) c.log-log.ensures.entries in
    let more : (list : List Access) → reverse list ≡ cons_option c.access_at.result (reverse c.loop-next.accesses.items) → IsBackTo es c.args.t.0 list c.earlier_of_txn-next.result =
    λ list grown. back_more es c.args.t.0 c.loop-next.accesses.items c.loop-next.next c.loop-next.invariant c.in-Some.i c.in-Some.is c.access_at.result found list grown c.earlier_of_txn-next.result c.earlier_of_txn-next.ensures in
    elim c.match-access_at.branch [
      | in-Some-access_at+in_ok-push w ↦ more c.match-access_at.accesses.items
          (ap (λ v. reverse v.items) w.accesses-is ∙ (ap reverse w.in_ok-push.ensures.items ∙ (reverse-append c.loop-next.accesses.items (w.in-Some-access_at.access ∷ []) ∙ ap (λ o. cons_option o (reverse c.loop-next.accesses.items)) (sym w.in-Some-access_at.is))))
      | in_default-access_at w ↦ more c.match-access_at.accesses.items
          (ap (λ v. reverse v.items) w.accesses-is ∙ ap (λ o. cons_option o (reverse c.loop-next.accesses.items)) (sym w.in_default-access_at.is))
    ]

pub returns : goal.returns
returns g c = c.reverse.ensures.items ∙ back_done c.args.history.now.schedule.entries c.args.t.0 c.loop-next.accesses.items c.loop-next.next c.loop-next.invariant c.in_default.is
