use Rattle.std.proofs.Common.{◌≡◌, ◌∙◌, ◌+◌, ◌++◌, ◌∷◌, [], ℕ, Option, ap, arith, length, slice_get}
use Rattle.std.specs.List.{cons_option, filter_map, range_with_len}
use Rattle.std.proofs.lemmas.List.Elements.{filter_map-append}
use Rattle.esr_items.specs.Weights.{weighted}
use Rattle.esr_history.proofs.Charges.{range-push}
use Rattle.esr_explain.specs.declared.charges.Charge.{Charge}
use Rattle.esr_explain.specs.Explain.{charge_at}
use Rattle.esr_explain.proofs.charges.charges_of.Goals as goal

-- one entry more
entry_more : (f : ℕ → Option Charge) (n : ℕ) → filter_map f (range_with_len 0 (n + 1)) ≡ filter_map f (range_with_len 0 n) ++ cons_option (f n) []
entry_more f n =
    let same : 0 + n ≡ n = omega arith in
    ap (filter_map f) (range-push 0 n ∙ ap (λ m. range_with_len 0 n ++ m ∷ []) same) ∙ filter_map-append f (range_with_len 0 n) (n ∷ [])

pub loop-preserved : goal.loop-preserved
loop-preserved c = grind (arith, entry_more)

pub returns : goal.returns
returns c =
    let h = c.args.history.now.schedule in
    let long : length c.log.result.now.entries ≡ length h.entries = ap length c.log.ensures.entries in
    let all : c.loop.counter ≡ length h.entries = omega (arith, c.loop-test.false, c.loop.auto.counter-end, c.len-end.ensures, long) in
    c.loop.invariant.charges ∙ ap (λ n. filter_map (λ i. charge_at weighted h c.args.q.0 i (slice_get h.entries i)) (range_with_len 0 n)) all
