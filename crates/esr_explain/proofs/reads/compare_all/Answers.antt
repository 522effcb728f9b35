use Rattle.std.proofs.Common.{◌≡◌, ◌∙◌, ◌+◌, ◌++◌, ◌∷◌, Bool, List, [], ℕ, ℤ, ap, append-nil, false, flat_map, get_or, if◌then◌else◌, of_z, pos, subst, sym, take, to_z, w64, arith, take_all}
use Rattle.std.proofs.lemmas.Int.{to_z-of_z}
use Rattle.esr_items.specs.Values.{value_at, IsValue}
use Rattle.esr_items.specs.Weights.{weighted}
use Rattle.esr_audit.proofs.Gathered.{value_fits}
use Rattle.esr_order.specs.declared.accesses.Access.{Access}
use Rattle.esr_explain.specs.declared.reads.ComparedRead.{ComparedRead}
use Rattle.esr_explain.specs.Explain.{compared_access, compared_read}
use Rattle.esr_explain.proofs.Compared.{reads_more}
use Rattle.esr_explain.proofs.reads.compare_all.Goals as goal
use Rattle.esr_explain.proofs.reads.compare_all.Goals.{then-not-access+in_ok-push, else-not-access}

pub loop-access-preserved : goal.loop-access-preserved
loop-access-preserved c =
    let d : Access = record { item = record { 0 = 0 }; writes = false; value = pos 0 } in
    let xs = c.args.accesses.now in let k = c.loop-access.access-index in
    let D : ℕ → ℤ → ℤ → ℕ = weighted c.args.metric.now in
    let a : Access = get_or xs k d in
    let values : ℕ → ℤ = value_at c.args.values.now in
    let f : Access → List ComparedRead = compared_access D values in
    let read : ComparedRead = compared_read D a.item a.value (values a.item.0) in
    let next : flat_map f (take k xs) ++ f a ≡ flat_map f (take (k + 1) xs) = sym (reads_more f xs k d c.loop-access-test.true) in
    elim c.if-not-access.branch [
      | then-not-access+in_ok-push w ↦
          let described : f a ≡ read ∷ [] = ap (λ (b : Bool). if b then [] else read ∷ []) w.if-not-access.true in
          let n : ℤ = w.value_of-nearest_value.result in
          let fits : to_z w64 (of_z w64 n) ≡ n = to_z-of_z w64 n (value_fits n (subst IsValue (sym w.value_of-nearest_value.ensures) (c.requires.values a.item.0))) in
          let is : w.compared_read.result ≡ read = w.compared_read.ensures ∙ ap (compared_read D a.item a.value) (fits ∙ w.value_of-nearest_value.ensures) in
          ap (λ v. v.items) w.reads-is ∙ (w.in_ok-push.ensures.items
          ∙ (ap (λ l. l ++ w.compared_read.result ∷ []) c.loop-access.invariant
          ∙ (ap (λ r. flat_map f (take k xs) ++ r ∷ []) is
          ∙ (ap (λ l. flat_map f (take k xs) ++ l) (sym described) ∙ next))))
      | else-not-access w ↦
          let none : f a ≡ [] = ap (λ (b : Bool). if b then [] else read ∷ []) w.if-not-access.false in
          ap (λ v. v.items) w.reads-is ∙ (c.loop-access.invariant
          ∙ (sym (append-nil (flat_map f (take k xs))) ∙ (ap (λ l. flat_map f (take k xs) ++ l) (sym none) ∙ next)))
    ]

pub returns : goal.returns
returns c = grind (arith, flat_map, take_all c.loop-access.access-index c.args.accesses.now c.loop-access-test.false)
