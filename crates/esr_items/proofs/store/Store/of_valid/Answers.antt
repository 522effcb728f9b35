use Rattle.std.proofs.Common.{◌≡◌, ℤ, List, [], ◌∷◌, map, refl, ap, ◌∙◌}
use Rattle.esr_items.specs.declared.store.Versions.{Versions}
use Rattle.esr_items.specs.Values.{both_versions}
use Rattle.esr_items.proofs.store.Store.of_valid.Goals as goal

committed_of_both : (vs : List ℤ) → map (λ (w : Versions). w.committed) (map both_versions vs) ≡ vs
committed_of_both [] = refl
committed_of_both (v ∷ vs) = ap (λ ws. v ∷ ws) (committed_of_both vs)

pub returns-clause-committed : goal.returns-clause-committed
returns-clause-committed c = ap (map (λ w. w.committed)) c.in_ok-items.ensures.both ∙ committed_of_both c.args.values.now
