-- A transaction is active depending on the index of its end; the index that audits share is also one of a longer log.
use Rattle.std.proofs.Common.{◌≡◌, ℕ, List, ◌++◌, length-append, Bool, true, false, not, ◌&&◌, ◌||◌, refl, sym, subst, ◌∙◌, ap, arith, is_some}
use Rattle.std.specs.List.{filter_map}
use Rattle.std.proofs.lemmas.List.{take-append-le}
use Rattle.esr_order.specs.Index.{Indexed, IsIndexOf}
use Rattle.esr_order.specs.AccessRows.{AreRowsOf}
use Rattle.esr_order.specs.Scans.{commit_in}
use Rattle.esr_order.proofs.Ended.{ended_is}
use Rattle.esr_history.specs.BackLinks.{ended_txn, last_place}
use Rattle.esr_history.specs.Events.{accepted, is_begun, is_committed, is_aborted, is_active}
use Rattle.esr_history.specs.declared.event.Entry.{Entry}

-- a transaction is active that has begun, and has no end
pub active_is : (es : List Entry) (t : ℕ) → is_active (accepted es) t ≡ (is_begun (accepted es) t && not (is_some (last_place ended_txn t es)))
active_is es t =
    ap (λ b. is_begun (accepted es) t && b) (neither (is_committed (accepted es) t) (is_aborted (accepted es) t))
    ∙ ap (λ b. is_begun (accepted es) t && not b) (sym (ended_is es t))
  where
    neither : (a b : Bool) → (not a && not b) ≡ not (a || b)
    neither true b = refl
    neither false b = refl

-- ---- the index that audits share
pub index_later : (es more : List Entry) (i : Indexed) → IsIndexOf es i → IsIndexOf (es ++ more) i
index_later es more i is = record {
  count_within_max = omega (arith, length-append es more, is.count_within_max);
  commits = is.commits ∙ ap (filter_map commit_in) (sym (take-append-le i.read es more is.count_within_max));
  rows = subst (λ first. AreRowsOf first i.rows) (sym (take-append-le i.read es more is.count_within_max)) is.rows;
}
