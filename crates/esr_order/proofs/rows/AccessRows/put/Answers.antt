use Rattle.std.proofs.Common.{inl, inr, ⊎_elim, ◌∙◌}
use Rattle.esr_order.proofs.Rowed.{row_put, row_others, row_unput}
use Rattle.esr_order.proofs.rows.AccessRows.put.Goals as goal

pub returns-then-end-clause-others : goal.returns-then-end-clause-others
returns-then-end-clause-others c =
    λ u. inl (row_unput _ _ _ c.in_ok-extend_from_slice.ensures.items _ c.self.invariant _ c.self.view_is u ∙ c.make_places.ensures.rows u)

pub returns : goal.returns
returns c =
    let grew = c.in_ok-extend_from_slice.ensures.items in
    let starts = c.len-begin.ensures ∙ c.self.inside.accesses.ok.0 in
    let ends = c.len-end.ensures ∙ c.extend_from_slice.new.self.ok.0 in
    let there = c.in_ok-make_places.ensures.place in
    record {
      others = λ u. ⊎_elim (λ same. inl (same ∙ c.make_places.ensures.rows u)) (λ new. inr new)
          (row_others _ _ _ grew _ c.self.invariant _ c.self.view_is _ _ _ starts ends there u);
      row = row_put _ _ _ grew _ c.self.invariant _ c.self.view_is _ _ _ starts ends there;
    }
