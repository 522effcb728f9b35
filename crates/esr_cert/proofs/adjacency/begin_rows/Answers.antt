use Rattle.std.proofs.Common.{arith, ◌≡◌, ℕ, ◌+◌, ◌<◌, ◌∙◌, List, [], ◌∷◌, ◌++◌, ap, length, take, sum, below_more}
use Rattle.std.proofs.lemmas.List.{get_or_append_left, get_or_push, length_push}
use Rattle.std.proofs.lemmas.List.Sums.{sum_by_more}
use Rattle.esr_cert.specs.Adjacency.{span_at, Span}
use Rattle.esr_cert.proofs.adjacency.begin_rows.Goals as goal

-- one more row begins at the end of the last
begun_more : (at : ℕ → Span) (spans new : List Span) (i : ℕ) → length spans ≡ i → new ≡ spans ++ at i ∷ [] → ((v : ℕ) → v < i → span_at spans v ≡ at v) → (v : ℕ) → v < i + 1 → span_at new v ≡ at v
begun_more at spans new i count is begun =
    below_more (λ v. span_at new v ≡ at v) i
    (λ v l. ap (λ list. span_at list v) is ∙ get_or_append_left spans (at i ∷ []) _ v (omega arith) ∙ begun v l)
    (ap (λ list. span_at list i) is ∙ get_or_push spans (at i) _ i count)

pub loop-length-preserved : goal.loop-length-preserved
loop-length-preserved c =
    let lengths = c.args.lengths.now in
    let i = c.loop-length.length-index in
    let spans = c.loop-length.spans.items in
    let at : ℕ → Span = λ v. record { begin = sum (take v lengths); end = sum (take v lengths) } in
    let pushed : c.push.new.self.items ≡ spans ++ at i ∷ [] = c.in_ok-push.ensures.items ∙ ap (λ n. spans ++ record { begin = n; end = n } ∷ []) c.loop-length.invariant.begin in
    record {
      begin = omega (arith, sum_by_more (λ n. n) lengths i 0 c.loop-length-test.true, c.loop-length.invariant.begin);
      count = omega (arith, ap length pushed, length_push spans (at i), c.loop-length.invariant.count);
      begun = begun_more at spans c.push.new.self.items i c.loop-length.invariant.count pushed c.loop-length.invariant.begun;
    }
