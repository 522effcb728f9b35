-- Why a closed, forced set of marked updates whose cost is a lower bound is the smallest set of least cost.
use Rattle.std.proofs.Common.{◌≡◌, ℕ, ◌+◌, ◌<◌, Bool, true, ◌&&◌, eqb, List, length, sym, ap, ◌∙◌, arith}
use Rattle.std.specs.List.{range_with_len}
use Rattle.std.proofs.lemmas.Bool.{and_parts, eqb-true}
use Rattle.std.proofs.lemmas.List.Elements.{All-from_recursion}
use Rattle.esr_history.specs.Machine.{Schedule}
use Rattle.esr_history.specs.Queries.{updates_committed_before, cost}
use Rattle.esr_history.proofs.Membership.{In-any, each_in}
use Rattle.esr_order.specs.Chains.{nth}
use Rattle.esr_bound.specs.Amounts.{mark_at, among_marked, HasMarked, LawOfSet}
use Rattle.esr_bound.proofs.LowerBound.{range_in}

-- a set that contains all marked updates contains the marked set
marked_in : (h : Schedule) (q : ℕ) (marks : List Bool) (T : ℕ → Bool) → HasMarked h q marks T → (u : ℕ) → among_marked (updates_committed_before h q) marks u ≡ true → T u ≡ true
marked_in h q marks T has u m =
    let r = In-any (λ i. mark_at marks i && eqb (nth (updates_committed_before h q) i) u) (range_with_len 0 (length (updates_committed_before h q))) m in
    let b = and_parts (mark_at marks r.0) (eqb (nth (updates_committed_before h q) r.0) u) r.2 in
    let low : r.0 < length (updates_committed_before h q) = omega (arith, (range_in 0 (length (updates_committed_before h q)) r.0 r.1).1) in
    ap T (sym (eqb-true (nth (updates_committed_before h q) r.0) u b.1)) ∙ has r.0 low b.0

pub law_of_set : LawOfSet
law_of_set d h q n C extra worth marks costs bound forced closed is =
    let S : ℕ → Bool = among_marked (updates_committed_before h q) marks in
    let own : worth ≡ extra + cost d h q S = sym is ∙ costs S in (
      record {
        least = record {
          closed = closed;
          none_less = λ T c. let f = bound T c in let e = costs T in omega (arith, own, f, e);
        };
        smallest = λ T l.
            let less = l.none_less S closed in
            let e = costs T in
            All-from_recursion (λ u. S u ≡ true → T u ≡ true) (updates_committed_before h q) (each_in (λ u. S u ≡ true → T u ≡ true) (updates_committed_before h q) (λ u i. marked_in h q marks T (forced T l.closed (omega (arith, own, less, e))) u));
      },
      own,
    )
