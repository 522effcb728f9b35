use Rattle.std.proofs.Common.{◌≡◌, ℕ, zero, suc, ◌+◌, ◌<◌, List, [], ◌∷◌, ◌++◌, length, slice_index_or, map, refl, sym, ap, ◌∙◌, subst, arith}
use Rattle.std.proofs.lemmas.List.{length-append, map_push}
use Rattle.esr_order.specs.Chains.{links_view}
use Rattle.esr_order.specs.Later.{no_one, SummarizeLater}
use Rattle.esr_order.proofs.backward_scan.empty_scan.Goals as goal

-- one more equal element
same_more : {X : Type 0} (xs : List X) (d : X) → ((x : ℕ) → x < length xs → slice_index_or xs x d ≡ d) → (x : ℕ) → x < length (xs ++ d ∷ []) → slice_index_or (xs ++ d ∷ []) x d ≡ d
same_more [] d same zero l = refl
same_more [] d same (suc x) l = refl
same_more (y ∷ ys) d same zero l = same zero (omega arith)
same_more (y ∷ ys) d same (suc x) l = same_more ys d (λ k m. same (suc k) (omega arith)) x (omega arith)

pub loop-x-preserved : goal.loop-x-preserved
loop-x-preserved c =
    let links = map links_view c.loop-x.chains.items in
    let rows = map (λ r. r.items) c.loop-x.readers.items in
    let chains : map links_view c.push.new.self.items ≡ links ++ no_one ∷ [] =
    ap (map links_view) c.in_ok-push.ensures.items ∙ map_push links_view c.loop-x.chains.items c.in_ok-links.links ∙ ap (λ k. links ++ k ∷ []) c.in_ok-links.ensures in
    let readers : map (λ r. r.items) c.push-in-loop-x.new.self.items ≡ rows ++ [] ∷ [] =
    ap (map (λ r. r.items)) c.in_ok-push-2.ensures.items ∙ map_push (λ r. r.items) c.loop-x.readers.items c.new.result ∙ ap (λ k. rows ++ k ∷ []) c.new.ensures.items in (
      ap length c.in_ok-push.ensures.items ∙ length-append c.loop-x.chains.items (c.in_ok-links.links ∷ []) ∙ ap (λ n. n + 1) c.loop-x.invariant.0,
      ap length c.in_ok-push-2.ensures.items ∙ length-append c.loop-x.readers.items (c.new.result ∷ []) ∙ ap (λ n. n + 1) c.loop-x.invariant.1,
      subst (λ ks. SummarizeLater ks (map (λ r. r.items) c.push-in-loop-x.new.self.items) []) (sym chains) (
          subst (λ rs. SummarizeLater (links ++ no_one ∷ []) rs []) (sym readers) (record {
            chains = same_more links no_one c.loop-x.invariant.2.chains;
            readers = same_more rows [] c.loop-x.invariant.2.readers;
          })),
    )
