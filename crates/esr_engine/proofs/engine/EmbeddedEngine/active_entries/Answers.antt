use Rattle.std.proofs.Common.{◌≡◌, ◌∙◌, ◌+◌, ◌++◌, ◌∷◌, [], ap, sym, subst, arith, true, false, length, map, filter, reverse}
use Rattle.std.specs.List.{range_with_len}
use Rattle.esr_items.specs.Weights.{weighted}
use Rattle.esr_history.specs.BackLinks.{accepted_txn, places_from}
use Rattle.esr_history.specs.Events.{begin_records, is_active}
use Rattle.esr_history.specs.Machine.{IsLegal, Schedule, accepted_in}
use Rattle.esr_history.proofs.Membership.{Contains-In}
use Rattle.esr_history.proofs.WithinRanges.{legal_begins}
use Rattle.esr_engine.specs.declared.carrying.ActiveTxn.{ActiveTxn}
use Rattle.esr_engine.specs.Carrying.{active_as}
use Rattle.esr_engine.proofs.ActivePlaces.{CoverUpTo, cover_all, cover_more, cover_same}
use Rattle.esr_engine.proofs.CarriedParts.{active_push, active_skip}
use Rattle.esr_engine.proofs.engine.EmbeddedEngine.active_entries.Goals.{then-is_active+in_ok-push_places+in_ok-push, else-is_active}
use Rattle.esr_engine.proofs.engine.EmbeddedEngine.active_entries.Goals as goal

pub overflow_cast-t : goal.overflow_cast-t
overflow_cast-t c =
    let most = legal_begins weighted c.args.self.now (subst (IsLegal weighted) c.self.view_is c.log-invariant.ensures.legal) in
    omega (arith, most, c.count_begun-k-end.ensures, c.loop-k-test.true)

pub overflow_add-t : goal.overflow_add-t
overflow_add-t c =
    let most = legal_begins weighted c.args.self.now (subst (IsLegal weighted) c.self.view_is c.log-invariant.ensures.legal) in
    omega (arith, most, c.count_begun-k-end.ensures, c.loop-k-test.true)

pub loop-k-preserved : goal.loop-k-preserved
loop-k-preserved c =
    let h = c.args.self.now in let k = c.loop-k.k in let was = c.loop-k.invariant in let places = c.loop-k.places.items in
    elim c.if-is_active.branch [
      | then-is_active+in_ok-push_places+in_ok-push w ↦
          let act : is_active (accepted_in h) (k + 1) ≡ true = sym c.is_active.ensures ∙ w.if-is_active.true in
          let grown = w.in_ok-push_places.ensures ∙ ap (λ (g : Schedule). places ++ reverse (places_from accepted_txn (k + 1) 0 g.entries)) (w.history.ensures.schedule ∙ c.self.view_is) in
          record {
            txns = ap (λ v. v.items) w.txns-is ∙ (w.in_ok-push.ensures.items ∙ (ap (λ l. l ++ w.begun.result ∷ []) was.txns
                ∙ (ap (λ (a : ActiveTxn). map (active_as h) (filter (is_active (accepted_in h)) (range_with_len 1 k)) ++ a ∷ []) w.begun.ensures ∙ sym (active_push h k act))));
            places = cover_more h k places c.if-is_active.places.items (ap (λ v. v.items) w.places-is ∙ grown) was.places;
          }
      | else-is_active w ↦
          let ended : is_active (accepted_in h) (k + 1) ≡ false = sym c.is_active.ensures ∙ w.if-is_active.false in
          record {
            txns = ap (λ v. v.items) w.txns-is ∙ (was.txns ∙ sym (active_skip h k ended));
            places = subst (CoverUpTo h (k + 1)) (sym (ap (λ v. v.items) w.places-is)) (cover_same h k places ended was.places);
          }
    ]

pub returns : goal.returns
returns c =
    let h = c.args.self.now in let places = c.loop-k.places.items in
    let all : c.loop-k.k ≡ length (begin_records (accepted_in h)) = omega (arith, c.loop-k-test.false, c.loop-k.auto.k-end, c.count_begun-k-end.ensures) in
    record {
      txns = c.loop-k.invariant.txns ∙ ap (λ n. map (active_as h) (filter (is_active (accepted_in h)) (range_with_len 1 n))) all;
      inside = λ i among. c.loop-k.invariant.places.inside i (Contains-In places i among);
      operations = cover_all h c.loop-k.k places all c.loop-k.invariant.places;
    }
