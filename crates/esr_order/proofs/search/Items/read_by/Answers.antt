use Rattle.std.proofs.Common.{◌≡◌, ℕ, zero, suc, ◌<◌, ◌||◌, false, refl, sym, ◌∙◌, ap, subst, length, replicate, All}
use Rattle.std.specs.List.{list_any}
use Rattle.esr_order.specs.Scans.{Access}
use Rattle.esr_order.specs.BackwardSearch.{marked, is_access}
use Rattle.esr_order.proofs.Accessed.{accesses_inside}
use Rattle.esr_order.proofs.Lists.{written_back}
use Rattle.esr_order.proofs.search.Items.read_by.Goals as goal

pub mark-requires : goal.mark-requires
mark-requires g c = record {
  items = subst (λ l. All (λ (a : Access). a.item.0 < length c.deref_mut.result.now) l) (sym (c.deref.ensures.value ∙ c.in_ok-accesses.ensures))
      (accesses_inside g.M.Metric.distance_by c.args.history.now.schedule c.log-invariant.ensures.legal c.args.q.0 (length c.deref_mut.result.now) (ap length c.deref_mut.ensures.value ∙ (sym c.in_ok-read.read.ok.0 ∙ (c.in_ok-read.ensures.len ∙ c.items.ensures.items))));
}

nothing_marked : (n x : ℕ) → marked (replicate n false) x ≡ false
nothing_marked zero x = refl
nothing_marked (suc n) zero = refl
nothing_marked (suc n) (suc x) = nothing_marked n x

pub returns-clause-written : goal.returns-clause-written
returns-clause-written g c x = ap (λ l. marked l x) (c.in_ok-written.ensures.items_if_clones_equal (λ y e. e)) ∙ nothing_marked _ x

pub returns-clause-read : goal.returns-clause-read
returns-clause-read g c x =
    let read = c.in_ok-read.read in
    let any = list_any (is_access false x) in
    ap (λ l. marked l x) (written_back c.mark.new.flags read.items read.len read.ok.0 (c.mark.ensures.len ∙ ap length c.deref_mut.ensures.value))
    ∙ c.mark.ensures.marks x
    ∙ ap (λ b. b || any c.deref.result.now) (ap (λ l. marked l x) (c.deref_mut.ensures.value ∙ c.in_ok-read.ensures.items_if_clones_equal (λ y e. e)) ∙ nothing_marked _ x)
    ∙ ap any (c.deref.ensures.value ∙ c.in_ok-accesses.ensures)
