use Rattle.std.proofs.Common.{◌≡◌, ◌∙◌, ap, arith, get_or, length, pos, false, set, sym, w64, true≢false}
use Rattle.std.proofs.lemmas.Int.{to_z-of_z}
use Rattle.esr_audit.proofs.Gathered.{value_fits}
use Rattle.esr_order.specs.declared.accesses.Access.{Access}
use Rattle.esr_outcomes.specs.ValuesAfter.{apply_access}
use Rattle.esr_outcomes.proofs.Accessed.{put_more, put_none, put_one}
use Rattle.esr_outcomes.proofs.values.apply_accesses.Goals as goal
use Rattle.esr_outcomes.proofs.values.apply_accesses.Goals.{then-access+then-x-len, else-access, else-access-via-then-access+else-x-len, else-access-via-else-access}

pub loop-access-preserved : goal.loop-access-preserved
loop-access-preserved c =
    let d : Access = record { item = record { 0 = 0 }; writes = false; value = pos 0 } in
    let xs = c.args.accesses.now in let k = c.loop-access.access-index in let vs = c.loop-access.values.items in
    let next : apply_access vs (get_or xs k d) ≡ _ = ap (λ l. apply_access l (get_or xs k d)) c.loop-access.invariant ∙ sym (put_more c.args.values.now.items xs k d c.loop-access-test.true) in
    elim c.if-access.branch [
      | then-access+then-x-len w ↦ ap (λ v. v.items) w.values-is ∙ (ap (set vs (get_or xs k d).item.0) (to_z-of_z w64 (get_or xs k d).value (value_fits (get_or xs k d).value (c.requires k d c.loop-access-test.true))) ∙ (put_one vs (get_or xs k d) w.if-access.true ∙ next))
      | else-access w ↦ elim w.else-access.branch [
        | else-access-via-then-access+else-x-len w2 ↦
            let long : w2.len.result ≡ length vs = w2.len.ensures ∙ c.loop-access.values.ok.0 in
            ap (λ v. v.items) w.values-is ∙ (put_none vs (get_or xs k d) (λ is. omega (arith, long, w2.if-x-len.false)) ∙ next)
        | else-access-via-else-access w2 ↦ ap (λ v. v.items) w.values-is ∙ (put_none vs (get_or xs k d) (λ is. absurd (true≢false (sym is ∙ w2.if-access.false))) ∙ next)
      ]
    ]
