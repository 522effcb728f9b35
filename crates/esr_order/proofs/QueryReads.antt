-- The accepted reads of a query: their number, their items and their values.
use Rattle.std.proofs.Common.{◌≡◌, ℕ, ◌+◌, ◌<◌, Bool, true, false, not, ◌&&◌, eqb, cond, List, [], ◌∷◌, length, map, filter, count_by, refl, sym, ap, ◌∙◌, arith}
use Rattle.std.specs.List.{AllByRecursion, filter_map, cons_option}
use Rattle.std.proofs.lemmas.List.Sums.{sum_by-cons}
use Rattle.std.proofs.lemmas.List.Elements.{recursion_from_All}
use Rattle.esr_items.specs.Values.{IsValue}
use Rattle.esr_history.specs.declared.event.Event.{Event}
use Rattle.esr_history.specs.declared.event.Event.TheVariants.{BeginUpdate, BeginQuery, Read, Write, Commit, Abort}
use Rattle.esr_history.specs.declared.event.Reply.{Reply}
use Rattle.esr_history.specs.declared.event.Entry.{Entry}
use Rattle.esr_history.specs.Events.{is_refusal, reads_any, total_read_count}
use Rattle.esr_history.specs.Machine.{Schedule, accepted_in}
use Rattle.esr_history.specs.Operations.{Operation, operations, operation_by, operation_of, answer}
use Rattle.esr_history.specs.Ranges.{IsWithinRanges}
use Rattle.esr_history.specs.Queries.{reads_by}
use Rattle.esr_history.proofs.Membership.{each_in, each_at, In-of_filter}

-- the machine counts the accepted reads of a query
pub reads_counted : (h : Schedule) (q : ℕ) → length (reads_by h q) ≡ total_read_count (accepted_in h) q
reads_counted h q = go (filter (λ (e : Entry). not (is_refusal e.reply)) h.entries)
  where
    at : (t : ℕ) (ev : Event) (r : Reply) (os : List Operation) → length (filter (λ o. not o.writes && (eqb o.txn t)) (cons_option (operation_by ev r) os)) ≡ cond (reads_any t ev) 1 0 + length (filter (λ o. not o.writes && (eqb o.txn t)) os)
    at t (BeginUpdate l) r os = omega arith
    at t (BeginQuery l s) r os = omega arith
    at t (Read u y) r os = pick (eqb u.0 t)
      where
        pick : (b : Bool) → length (cond b (record { txn = u.0; item = y.0; writes = false; value = answer r } ∷ filter (λ o. not o.writes && (eqb o.txn t)) os) (filter (λ o. not o.writes && (eqb o.txn t)) os)) ≡ cond b 1 0 + length (filter (λ o. not o.writes && (eqb o.txn t)) os)
        pick true = omega arith
        pick false = omega arith
    at t (Write u y v) r os = omega arith
    at t (Commit u) r os = omega arith
    at t (Abort u) r os = omega arith

    go : (es : List Entry) → length (filter (λ o. not o.writes && (eqb o.txn q)) (filter_map operation_of es)) ≡ count_by (reads_any q) (map (λ e. e.event) es)
    go [] = refl
    go (e ∷ es) =
        at q e.event e.reply (filter_map operation_of es)
        ∙ ap (λ n. cond (reads_any q e.event) 1 0 + n) (go es)
        ∙ sym (sum_by-cons (λ f. cond (reads_any q f) 1 0) e.event (map (λ e. e.event) es))

-- each has a value within the range of values and an item of the history
pub reads_in_range : (h : Schedule) → IsWithinRanges h → (q : ℕ) → AllByRecursion (λ (o : Operation). IsValue o.value × (o.item < length h.opening)) (reads_by h q)
reads_in_range h range q = each_in (λ (o : Operation). IsValue o.value × (o.item < length h.opening)) (reads_by h q) (λ o i.
    let j = (In-of_filter (λ (o : Operation). not o.writes && eqb o.txn q) (operations h) o i).0 in (
      each_at (λ (o : Operation). IsValue o.value) (operations h) o (recursion_from_All (λ (o : Operation). IsValue o.value) (operations h) range.values) j,
      each_at (λ (o : Operation). o.item < length h.opening) (operations h) o (recursion_from_All (λ (o : Operation). o.item < length h.opening) (operations h) range.items) j,
    ))
